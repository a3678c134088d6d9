-- The rows that filter, select and with_columns give of rows that fit fit too.
use Rattle.std.proofs.Common.{ℕ, Bool, List, [], ◌∷◌, map, filter, refl}
use Rattle.std.specs.Prelude.{IsTrue}
use Rattle.std.specs.List.{list_all, AllByRecursion}
use Rattle.df_value.specs.declared.cell.Cell.{Cell}
use Rattle.df_value.specs.Cells.{fits_dtype}
use Rattle.df_value.specs.Rows.{row_fits}
use Rattle.df_expr.specs.declared.expr.Expr.{Expr}
use Rattle.df_expr.specs.Value.{value_of}
use Rattle.df_expr.proofs.Sound.{value_fits}
use Rattle.df_value.specs.Schemas.{Columns}
use Rattle.df_ops.specs.NamedColumns.{with_columns}
use Rattle.df_ops.specs.RowWise.{expr_dtype, item_column, item_cell, select_row, named_cells, with_columns_row, with_columns_schema}
use Rattle.df_value.specs.Choices.{either}
use Rattle.df_ops.proofs.Beside.{Beside, with_columns-beside}
use Rattle.df_ops.proofs.FitCells.{FitsBeside, fits_row, own_beside}
pub use Rattle.df_ops.proofs.FitCells.{both_true, first_of_two, second_of_two}
use Rattle.df_plan.proofs.ItemKinds.{HasKind}

pub map_all :
    (p q : List Cell → Bool) (f : List Cell → List Cell) → ((r : List Cell) → IsTrue (p r) → IsTrue (q (f r))) →
    (rs : List (List Cell)) → IsTrue (list_all p rs) → IsTrue (list_all q (map f rs))
map_all p q f keeps [] h = refl
map_all p q f keeps (r ∷ rs) h =
    both_true (q (f r)) (list_all q (map f rs)) (keeps r (first_of_two (p r) (list_all p rs) h))
    (map_all p q f keeps rs (second_of_two (p r) (list_all p rs) h))

pub filter_all : (p q : List Cell → Bool) (rs : List (List Cell)) → IsTrue (list_all p rs) → IsTrue (list_all p (filter q rs))
filter_all p q [] h = refl
filter_all p q (r ∷ rs) h =
    let rest = filter_all p q rs (second_of_two (p r) (list_all p rs) h) in
    either (λ (l : List (List Cell)). IsTrue (list_all p l)) (q r) (r ∷ filter q rs) (filter q rs)
    (both_true (p r) (list_all p (filter q rs)) (first_of_two (p r) (list_all p rs) h) rest) rest

pub selected_fit :
    (columns : Columns) (row : List Cell) → IsTrue (row_fits columns row) → (items : List (List ℕ × Expr)) →
    AllByRecursion (HasKind columns) items → IsTrue (row_fits (map (item_column columns) items) (select_row columns items row))
selected_fit columns row fits [] typed = refl
selected_fit columns row fits (i ∷ items) typed =
    both_true (fits_dtype (expr_dtype i.1 columns) (value_of i.1 columns row)) (row_fits (map (item_column columns) items) (select_row columns items row))
    (value_fits columns row fits i.1 (expr_dtype i.1 columns) typed.0) (selected_fit columns row fits items typed.1)

items_beside :
    (columns : Columns) (row : List Cell) → IsTrue (row_fits columns row) → (items : List (List ℕ × Expr)) →
    AllByRecursion (HasKind columns) items → Beside FitsBeside (map (item_column columns) items) (map (item_cell columns row) items)
items_beside columns row fits [] typed = tt
items_beside columns row fits (i ∷ items) typed =
    ((refl, value_fits columns row fits i.1 (expr_dtype i.1 columns) typed.0), items_beside columns row fits items typed.1)

pub added_fit :
    (columns : Columns) (row : List Cell) → IsTrue (row_fits columns row) → (items : List (List ℕ × Expr)) →
    AllByRecursion (HasKind columns) items → IsTrue (row_fits (with_columns_schema columns items) (with_columns_row columns items row))
unfolding with_columns_row
added_fit columns row fits items typed =
    fits_row (with_columns_schema columns items) (with_columns (named_cells columns row) (map (item_cell columns row) items))
    (with_columns-beside FitsBeside (λ c v h. h.0) columns (named_cells columns row) (own_beside columns row fits)
    (map (item_column columns) items) (map (item_cell columns row) items) (items_beside columns row fits items typed))
