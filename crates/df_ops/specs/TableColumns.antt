-- What stands in the columns of a table that an operator gives, from top to bottom.
use Rattle.std.specs.Prelude.{◌≡◌, ◌≢◌, ◌++◌, ℕ, IsTrue, filter, not, List, Option, Some, map}
use Rattle.df_value.specs.declared.cell.Cell.{Cell}
use Rattle.df_value.specs.Schemas.{column_dtype, column_index}
use Rattle.df_expr.specs.declared.expr.Expr.{Expr}
use Rattle.df_expr.specs.Value.{value_of}
use Rattle.df_ops.specs.Aggregates.{cells_of}
use Rattle.df_ops.specs.NamedColumns.{first_of_name, has_column}
use Rattle.df_ops.specs.declared.plain_table.PlainTable.{PlainTable}

-- the cells of the column of a name
abbrev pub column_of : List ℕ → PlainTable → List Cell
column_of name t = cells_of (column_index name t.columns) t.rows

-- the column of an item's name has the item's value in each row of the input; of items of one name the first counts
abbrev pub HasItemValues : PlainTable → List (List ℕ × Expr) → PlainTable → Type 0
HasItemValues input items output =
    (name : List ℕ) (item : List ℕ × Expr) → first_of_name name items ≡ Some item →
    column_of name output ≡ map (value_of item.1 input.columns) input.rows

-- each column of the input that no item names is as it was
abbrev pub KeepsOtherColumns : PlainTable → List (List ℕ × Expr) → PlainTable → Type 0
KeepsOtherColumns input items output =
    (name : List ℕ) → IsTrue (has_column name input.columns) → IsTrue (not (has_column name items)) →
    column_of name output ≡ column_of name input

-- the columns have the names of the input's, and after them the new names among those of the items, in order
abbrev pub AppendsNewNames : PlainTable → List (List ℕ × Expr) → PlainTable → Type 0
AppendsNewNames input items output =
    map (λ c. c.0) output.columns
    ≡ map (λ c. c.0) input.columns ++ map (λ i. i.0) (filter (λ i. not (has_column i.0 input.columns)) items)

-- each column of the input that no item names has the dtype that it had
abbrev pub KeepsOtherDtypes : PlainTable → List (List ℕ × Expr) → PlainTable → Type 0
KeepsOtherDtypes input items output =
    (name : List ℕ) → IsTrue (has_column name input.columns) → IsTrue (not (has_column name items)) →
    column_dtype name output.columns ≡ column_dtype name input.columns

-- the column of this name has these cells, and each other column of the input is as it was
pub record PutsColumn (input : PlainTable) (name : List ℕ) (cells : List Cell) (output : PlainTable) : Type 0 where
  pub own : column_of name output ≡ cells
  pub others : (other : List ℕ) → IsTrue (has_column other input.columns) → other ≢ name → column_of other output ≡ column_of other input
