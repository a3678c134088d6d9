-- How far a walk over fields or records has come.
use Rattle.std.proofs.Common.{List, ◌++◌}
use Rattle.df_value.specs.declared.cell.Cell.{Cell}
use Rattle.df_csv.specs.declared.typed.TypedRow.{TypedRow}
use Rattle.df_csv.specs.declared.typed.TypedRow.TheVariants as one
use Rattle.df_csv.specs.declared.typed.TypedRows.{TypedRows}
use Rattle.df_csv.specs.declared.typed.TypedRows.TheVariants as all

-- cells, and then those of a row
abbrev pub after_cells : List Cell → TypedRow → TypedRow
after_cells xs (one.Good ys) = one.Good (xs ++ ys)
after_cells xs (one.Bad i) = one.Bad i

-- rows, and then those of a list
abbrev pub after_typed : List (List Cell) → TypedRows → TypedRows
after_typed xs (all.Good ys) = all.Good (xs ++ ys)
after_typed xs (all.Bad cell) = all.Bad cell
