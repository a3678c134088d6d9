-- The order of cells, as the Polars Python reference sorts and compares them: numbers by size, strings by
-- their UTF-8 bytes, false before true. This project's own choice: sums and integers are types that do not
-- compare with one another, and means are not ordered.
use Rattle.std.specs.Prelude.{Option, Some, None}
use Rattle.std.specs.Ordering.{nat_cmp, int_cmp, bool_cmp}
use Rattle.std.specs.Cmp.Lexicographic.{slice_cmp}
use Rattle.std.specs.declared.cmp.Ordering.{Ordering}
use Rattle.df_value.specs.declared.cell.Cell.{Cell}
use Rattle.df_value.specs.declared.cell.Cell.TheVariants as cell

-- how two cells of one ordered type compare; none for a null, a mean, or cells of two types
abbrev pub order_of : Cell → Cell → Option Ordering
order_of (cell.Int a) (cell.Int b) = Some (int_cmp a b)
order_of (cell.Wide a) (cell.Wide b) = Some (int_cmp a b)
order_of (cell.Text a) (cell.Text b) = Some (slice_cmp nat_cmp a b)
order_of (cell.Bool a) (cell.Bool b) = Some (bool_cmp a b)
order_of _ _ = None
