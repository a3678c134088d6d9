-- The cell of a value, null where there is none.
use Rattle.std.specs.Prelude.{ℕ, ℤ, Bool, List, Option, Some, None}
use Rattle.df_value.specs.declared.cell.Cell.{Cell}
use Rattle.df_value.specs.declared.cell.Cell.TheVariants as cell

abbrev pub int_cell : Option ℤ → Cell
int_cell None = cell.Null
int_cell (Some n) = cell.Int n

abbrev pub wide_cell : Option ℤ → Cell
wide_cell None = cell.Null
wide_cell (Some n) = cell.Wide n

abbrev pub text_cell : Option (List ℕ) → Cell
text_cell None = cell.Null
text_cell (Some t) = cell.Text t

abbrev pub bool_cell : Option Bool → Cell
bool_cell None = cell.Null
bool_cell (Some b) = cell.Bool b

abbrev pub frac_cell : Option (ℤ × ℤ) → Cell
frac_cell None = cell.Null
frac_cell (Some f) = cell.Frac f
