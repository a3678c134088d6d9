-- Numbers of values that are kept stay what the values below add.
use Rattle.std.proofs.Common.{◌≡◌, ℕ, ◌%◌, ◌^◌, true, false, cond, List, Some, refl, sym, subst}
use Rattle.std.specs.Option.{IfSome}
use Rattle.indexmap.specs.IndexMap.{get}
use Rattle.df_value.specs.CellEq.{cell_eq, cell_eq-Decides}
use Rattle.df_value.specs.declared.cell.Cell.{Cell}
use Rattle.df_ops.specs.declared.ranks.RankKind.{RankKind}
use Rattle.df_ranks.specs.Counts.{weight_below}
use Rattle.df_ranks.specs.Known.{AreNumbers}
use Rattle.df_ranks.specs.declared.known.KnownRanks.{KnownRanks}

pub known_more : (kind : RankKind) (counts : List (Cell × ℕ)) (old new : KnownRanks) (value : Cell) (number : ℕ) → number ≡ weight_below kind counts value % 2 ^ 64
    → ((v : Cell) → get cell_eq new.numbers v ≡ cond (cell_eq value v) (Some number) (get cell_eq old.numbers v)) → AreNumbers kind counts old → AreNumbers kind counts new
known_more kind counts old new value number is step known = record {
  at = λ v. subst (λ o. IfSome o (λ n. n ≡ weight_below kind counts v % 2 ^ 64)) (sym (step v))
      (elim (cell_eq value v) as (λ b. cell_eq value v ≡ b → IfSome (cond b (Some number) (get cell_eq old.numbers v)) (λ n. n ≡ weight_below kind counts v % 2 ^ 64)) [
        | true ↦ λ e. subst (λ w. number ≡ weight_below kind counts w % 2 ^ 64) ((cell_eq-Decides value v).0 e) is
        | false ↦ λ e. known.at v
      ] refl);
}

-- a number that is found is known
pub known_found : (kind : RankKind) (counts : List (Cell × ℕ)) (known : KnownRanks) (value : Cell) (number : ℕ) → get cell_eq known.numbers value ≡ Some number → AreNumbers kind counts known → number ≡ weight_below kind counts value % 2 ^ 64
known_found kind counts known value number found are = subst (λ o. IfSome o (λ n. n ≡ weight_below kind counts value % 2 ^ 64)) found (are.at value)
