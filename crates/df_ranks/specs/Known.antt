-- The numbers behind which values rank, as far as they are known.
use Rattle.std.specs.Prelude.{◌≡◌, ℕ, ◌%◌, ◌^◌, List}
use Rattle.std.specs.Option.{IfSome}
use Rattle.indexmap.specs.IndexMap.{get}
use Rattle.df_value.specs.CellEq.{cell_eq}
use Rattle.df_value.specs.declared.cell.Cell.{Cell}
use Rattle.df_ops.specs.declared.ranks.RankKind.{RankKind}
use Rattle.df_ranks.specs.Counts.{weight_below}
use Rattle.df_ranks.specs.declared.known.KnownRanks.{KnownRanks}

-- each is what the values below add to the rank of the value, modulo 2^64
pub record AreNumbers (kind : RankKind) (counts : List (Cell × ℕ)) (known : KnownRanks) : Type 0 where
  pub at : (v : Cell) → IfSome (get cell_eq known.numbers v) (λ n. n ≡ weight_below kind counts v % 2 ^ 64)
