-- Operators that look at one row at a time, over tagged rows: a row keeps its tag.
use Rattle.std.specs.Prelude.{ℕ, List, Option, Some, None, cond, length, map}
use Rattle.std.specs.Option.{option_and_then}
use Rattle.df_value.specs.declared.cell.Cell.{Cell}
use Rattle.df_expr.specs.Physical.{physical_value}
use Rattle.df_ops.specs.Places.{placed_cell}
use Rattle.df_ops.specs.RowWise.{is_true}
use Rattle.df_column.specs.Changes.{Change}
use Rattle.df_column.specs.Tables.{TaggedRows}
use Rattle.df_column.specs.declared.tag.Tag.{Tag}
use Rattle.df_delta.specs.ChangeOf.{row_wise_change}
use Rattle.df_delta.specs.Collected.{collected, collected_list}
use Rattle.df_delta.specs.SameRows.{same_row}
use Rattle.df_nodes.specs.declared.row_operator.RowOperator.{RowOperator}
use Rattle.df_nodes.specs.declared.row_operator.RowOperator.TheVariants as operator

-- what is made of a row, if anything
abbrev pub result_of : RowOperator → List Cell → Option (List Cell)
result_of (operator.Filter p) row = cond (is_true (physical_value p row)) (Some row) None
result_of (operator.Select items) row = Some (map (λ p. physical_value p row) items)
result_of (operator.WithColumns places items) row = Some (map (placed_cell row (map (λ p. physical_value p row) items)) places)

-- the same where there may be no row
abbrev pub result_of_row : RowOperator → Option (List Cell) → Option (List Cell)
result_of_row op row = option_and_then (result_of op) row

-- how many evaluations that takes
abbrev pub evaluations_of : RowOperator → ℕ
evaluations_of (operator.Filter p) = 1
evaluations_of (operator.Select items) = length items
evaluations_of (operator.WithColumns places items) = length items

-- what is made of each row, at its tag
abbrev pub row_wise_output : RowOperator → TaggedRows → TaggedRows
row_wise_output op t = collected (λ _. result_of op) t

-- what is made of these changes, one by one
abbrev pub row_wise_made : RowOperator → List (Tag × Change (List Cell)) → List (Tag × Change (List Cell))
row_wise_made op changes = collected_list (λ _. row_wise_change same_row (result_of op)) changes
