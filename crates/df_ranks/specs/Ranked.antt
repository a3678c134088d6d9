-- The tagged rows that a live rank gives: those of the input, each with its rank put among its cells, as `rank` with the
-- methods "dense" and "min" of the Polars Python reference ranks them.
use Rattle.std.specs.Prelude.{ℕ, List, Option, Some}
use Rattle.std.specs.FinMap as finite
use Rattle.df_value.specs.Rows.{cell_at}
use Rattle.df_value.specs.declared.cell.Cell.{Cell}
use Rattle.df_value.specs.declared.cell.CellType.{CellType}
use Rattle.df_ops.specs.Ranks.{dense_rank_of, distinct_at, min_rank_of}
use Rattle.df_ops.specs.RowWise.{with_column_row}
use Rattle.df_ops.specs.declared.ranks.RankKind.{RankKind}
use Rattle.df_ops.specs.declared.ranks.RankKind.TheVariants as rank
use Rattle.df_column.specs.Tables.{TaggedRows}
use Rattle.df_delta.specs.Collected.{collected}

-- the rank of a cell among those at an index of these rows
abbrev pub rank_of : RankKind → Option ℕ → List (List Cell) → Cell → Cell
rank_of rank.Dense index rows c = dense_rank_of (distinct_at index rows) c
rank_of rank.Min index rows c = min_rank_of index rows c

-- each row with the rank that this gives of its cell put among its cells under the name
abbrev pub with_ranks : List (List ℕ × CellType) → List ℕ → Option ℕ → (Cell → Cell) → TaggedRows → TaggedRows
with_ranks columns name index number t = collected (λ _ row. Some (with_column_row columns name row (number (cell_at index row)))) t

-- each row with its rank
abbrev pub ranked : List (List ℕ × CellType) → List ℕ → RankKind → Option ℕ → TaggedRows → TaggedRows
ranked columns name kind index t = with_ranks columns name index (rank_of kind index (finite.values t)) t
