-- Totals are a monoid.
use Rattle.std.specs.Prelude.{◌≡◌, ℕ}
use Rattle.std.proofs.Common.{refl, sym, ap, ◌∙◌, arith}
use Rattle.df_tree.specs.Laws.{MonoidLaws}
use Rattle.df_counts.specs.Totals.{no_totals, sum_of}
use Rattle.df_counts.specs.declared.totals.Totals.{Totals}

same_totals : (a b c d : ℕ) → a ≡ b → c ≡ d → (s t : Totals) → s ≡ record { values = a; rows = c } → t ≡ record { values = b; rows = d } → s ≡ t
same_totals a b c d p q s t e f =
    let of : ℕ → ℕ → Totals = λ v r. record { values = v; rows = r } in
    e ∙ ap (λ v. of v c) p ∙ ap (λ r. of b r) q ∙ sym f

pub totals_laws : MonoidLaws no_totals sum_of
totals_laws = record {
  nothing = same_totals _ _ _ _ (omega arith) (omega arith) (sum_of no_totals no_totals) no_totals refl refl;
  left = λ x y. same_totals _ _ _ _ (omega arith) (omega arith) (sum_of no_totals (sum_of x y)) (sum_of x y) refl refl;
  right = λ x y. same_totals _ _ _ _ (omega arith) (omega arith) (sum_of (sum_of x y) no_totals) (sum_of x y) refl refl;
  associative = λ x y z. same_totals _ _ _ _ (omega arith) (omega arith) (sum_of (sum_of x y) z) (sum_of x (sum_of y z)) refl refl;
}
