-- The cells of a row that fits have the types of their columns.
use Rattle.std.proofs.Common.{◌≡◌, ℕ, ◌<◌, true, zero, suc, List, [], ◌∷◌, ◌++◌, length, refl, arith}
use Rattle.std.specs.Prelude.{IsTrue, Option, Some, None, option_map, slice_get, unwrap_or, nat_lt}
use Rattle.std.specs.List.{position_or_len}
use Rattle.std.specs.Str.{bytes_eq}
use Rattle.std.proofs.lemmas.Grind.{common_steps}
use Rattle.std.proofs.lemmas.List.Folds.{find_at}
use Rattle.std.proofs.lemmas.Option.{slice_get_within}
use Rattle.std.proofs.lemmas.Bool.Decides.{Decides-ltb}
use Rattle.df_value.specs.declared.cell.Cell.{Cell}
use Rattle.df_value.specs.declared.cell.Cell.TheVariants as cell
use Rattle.df_value.specs.declared.cell.CellType.{CellType}
use Rattle.df_value.specs.Cells.{fits_dtype}
use Rattle.df_value.specs.Rows.{row_fits, cell_at}
use Rattle.df_value.specs.Schemas.{column_dtype, column_index}
use Rattle.df_value.specs.Schemas.{Columns}
use Rattle.df_plan.proofs.RowWiseSound.{first_of_two, second_of_two, both_true}

-- the cell beside a column fits its type
cell_fits :
    (columns : Columns) (row : List Cell) (i : ℕ) (c : List ℕ × CellType) →
    IsTrue (row_fits columns row) → slice_get columns i ≡ Some c →
    IsTrue (fits_dtype c.1 (unwrap_or (slice_get row i) cell.Null))
cell_fits [] row i c fits h = cc
cell_fits (d ∷ ds) [] i c fits h = cc
cell_fits (d ∷ ds) (v ∷ vs) zero c fits h = grind (arith, common_steps)
cell_fits (d ∷ ds) (v ∷ vs) (suc i) c fits h =
    cell_fits ds vs i c (second_of_two (fits_dtype d.1 v) (row_fits ds vs) fits) h

found_dtype :
    (o : Option (List ℕ × CellType)) (t : CellType) → option_map (λ c. c.1) o ≡ Some t →
    (c : List ℕ × CellType) × ((o ≡ Some c) × (c.1 ≡ t))
found_dtype None t h = cc
found_dtype (Some c) t h = (c, (refl, cc))

-- the cell of a column of a row that fits has the column's type
pub column_fits :
    (columns : Columns) (row : List Cell) → IsTrue (row_fits columns row) → (name : List ℕ) (t : CellType) →
    column_dtype name columns ≡ Some t → IsTrue (fits_dtype t (cell_at (column_index name columns) row))
column_fits columns row fits name t h =
    let place = position_or_len (λ c. bytes_eq c.0 name) columns in
    let found = found_dtype (slice_get columns place) t (simp find_at at h) in
    let within : place < length columns = slice_get_within columns place found.0 found.1.0 in
    let test : nat_lt place (length columns) ≡ true = (Decides-ltb place (length columns)).1 within in
    let here : IsTrue (fits_dtype found.0.1 (unwrap_or (slice_get row place) cell.Null)) = cell_fits columns row place found.0 fits found.1.0 in
    rw (test, ← found.1.1) here

-- two rows side by side fit two lists of columns side by side
pub fits_both :
    (cs ds : Columns) (v w : List Cell) → IsTrue (row_fits cs v) → IsTrue (row_fits ds w) →
    IsTrue (row_fits (cs ++ ds) (v ++ w))
fits_both [] ds [] w h k = k
fits_both [] ds (x ∷ v) w h k = cc
fits_both (c ∷ cs) ds [] w h k = cc
fits_both (c ∷ cs) ds (x ∷ v) w h k =
    both_true (fits_dtype c.1 x) (row_fits (cs ++ ds) (v ++ w)) (first_of_two (fits_dtype c.1 x) (row_fits cs v) h)
    (fits_both cs ds v w (second_of_two (fits_dtype c.1 x) (row_fits cs v) h) k)
