-- Ranks by counts: what the values of a column, each with the number of its rows, add to the ranks of the cells above them.
use Rattle.std.specs.Prelude.{◌≡◌, ℕ, ◌+◌, ◌%◌, ◌^◌, pos, Bool, true, false, List, Option, Some, None, is_some, not, ◌==◌, if◌then◌else◌}
use Rattle.std.specs.List.{sum_by}
use Rattle.std.specs.Ordering.{is_lt}
use Rattle.std.specs.FinMap.{find}
use Rattle.df_value.specs.CellOrder.{cell_cmp}
use Rattle.df_value.specs.declared.cell.Cell.{Cell}
use Rattle.df_value.specs.declared.cell.Cell.TheVariants as cell
use Rattle.df_expr.specs.Value.{is_null}
use Rattle.df_ops.specs.declared.ranks.RankKind.{RankKind}
use Rattle.df_ops.specs.declared.ranks.RankKind.TheVariants as rank

-- what a value with this count adds to the ranks of the cells above it
abbrev pub weight : RankKind → ℕ → ℕ
weight rank.Dense n = 1
weight rank.Min n = n

-- what the values below c add to its rank
abbrev pub weight_below : RankKind → List (Cell × ℕ) → Cell → ℕ
weight_below kind counts c = sum_by (λ e. if is_lt (cell_cmp e.0 c) then weight kind e.1 else 0) counts

-- the number behind which a rank stands. It counts modulo 2^62, since no table has so many rows.
abbrev pub rank_number : ℕ → ℕ
rank_number n = n % 2 ^ 62

-- the rank of a cell by counts, null for null
abbrev pub counted_rank : RankKind → List (Cell × ℕ) → Cell → Cell
counted_rank kind counts c = if is_null c then cell.Null else cell.Int (pos (1 + rank_number (weight_below kind counts c)))

-- whether a cell is above the value above which ranks change, if there is one
abbrev pub is_above : Option Cell → Cell → Bool
is_above None c = false
is_above (Some least) c = is_lt (cell_cmp least c)

-- for a value that is in the new counts and not above the least, the values below it add as much in both
pub record RanksStay (kind : RankKind) (old new : List (Cell × ℕ)) (least : Option Cell) : Type 0 where
  pub at : (c : Cell) → is_some (find cell_cmp c new) ≡ true → is_above least c ≡ false → weight_below kind old c ≡ weight_below kind new c

-- whether a value with the first count, if any, adds something else to the ranks above it where it gets the second
abbrev pub changes_weight : RankKind → Option ℕ → Option ℕ → Bool
changes_weight kind None None = false
changes_weight kind None (Some n) = true
changes_weight kind (Some m) None = true
changes_weight kind (Some m) (Some n) = not (weight kind m == weight kind n)

-- whether a value stands below the least, or there is no least
abbrev pub is_under : Option Cell → Cell → Bool
is_under None v = true
is_under (Some least) v = is_lt (cell_cmp v least)

-- the values below the least add to the ranks above them what they added
pub record SameBelow (kind : RankKind) (old new : List (Cell × ℕ)) (least : Option Cell) : Type 0 where
  pub at : (v : Cell) → is_under least v ≡ true → changes_weight kind (find cell_cmp v old) (find cell_cmp v new) ≡ false
