-- Operators that give of each row what stands in the rows up to it.
use Rattle.std.specs.Prelude.{ℕ, not, List, Option, Some, filter, map}
use Rattle.std.specs.FinMap as finite
use Rattle.df_value.specs.declared.cell.Cell.{Cell}
use Rattle.df_ops.specs.Aggregates.{cells_of}
use Rattle.df_column.specs.Bounds.{is_below}
use Rattle.df_column.specs.Tables.{TaggedRows}
use Rattle.df_column.specs.declared.tag.Tag.{Tag}
use Rattle.df_delta.specs.Collected.{collected}

-- the rows whose tags are at most this one
abbrev pub rows_up_to : Tag → List (Tag × List Cell) → List (Tag × List Cell)
rows_up_to q rows = filter (λ r. not (is_below q r.0)) rows

-- the cells at an index of those rows
abbrev pub cells_up_to : Option ℕ → TaggedRows → Tag → List Cell
cells_up_to index t q = cells_of index (map (λ r. r.1) (rows_up_to q (finite.entries t)))

-- each row, among whose cells is put what f gives of the cells at an index of the rows up to it
abbrev pub with_each_prefix : (List Cell → Cell → List Cell) → (List Cell → Cell) → Option ℕ → TaggedRows → TaggedRows
with_each_prefix put f index t = collected (λ q row. Some (put row (f (cells_up_to index t q)))) t
