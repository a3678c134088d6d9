-- The rows of a rank's output, tag by tag.
use Rattle.std.proofs.Common.{◌≡◌, ℕ, List, Option, Some}
use Rattle.std.specs.Option.{option_and_then}
use Rattle.std.specs.FinMap as finite
use Rattle.df_value.specs.Rows.{cell_at}
use Rattle.df_value.specs.declared.cell.Cell.{Cell}
use Rattle.df_value.specs.declared.cell.CellType.{CellType}
use Rattle.df_column.specs.TagOrder.{tag_same}
use Rattle.df_column.specs.Tables.{TaggedRows}
use Rattle.df_column.specs.Tags.{tag_cmp}
use Rattle.df_column.specs.declared.tag.Tag.{Tag}
use Rattle.df_delta.proofs.Collected.{get-collected}
use Rattle.df_ops.specs.RowWise.{with_column_row}
use Rattle.df_ranks.specs.Ranked.{with_ranks}

-- a row with the rank of its cell
abbrev pub rank_row : List (List ℕ × CellType) → List ℕ → Option ℕ → (Cell → Cell) → List Cell → Option (List Cell)
rank_row columns name index number row = Some (with_column_row columns name row (number (cell_at index row)))

pub get_ranked : (columns : List (List ℕ × CellType)) (name : List ℕ) (index : Option ℕ) (number : Cell → Cell) (t : TaggedRows) (q : Tag)
    → finite.get (with_ranks columns name index number t) q ≡ option_and_then (rank_row columns name index number) (finite.get t q)
get_ranked columns name index number t q = get-collected tag_cmp (λ _. rank_row columns name index number) tag_same t q
