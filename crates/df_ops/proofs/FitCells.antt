-- Cells that fit the types of their columns: a row's own, those put among them, and the values of windows, sums and ranks.
use Rattle.std.proofs.Common.{◌≡◌, ℕ, Bool, true, false, cond, zero, suc, List, [], ◌∷◌, map, filter, take, drop, Option, Some, refl, ap}
use Rattle.std.specs.Prelude.{IsTrue, ◌&&◌, not, find, nat_lt, unwrap_or}
use Rattle.std.specs.List.{list_all}
use Rattle.df_value.specs.Cells.{fits_dtype}
use Rattle.df_value.specs.Choices.{either}
use Rattle.df_value.specs.Rows.{cell_at, row_fits, rows_fit}
use Rattle.df_value.specs.Schemas.{Columns, column_dtype, column_index}
use Rattle.df_value.specs.declared.cell.Cell.{Cell}
use Rattle.df_value.specs.declared.cell.Cell.TheVariants as cell
use Rattle.df_value.specs.declared.cell.CellType.{CellType}
use Rattle.df_value.specs.declared.cell.CellType.TheVariants as dtype
use Rattle.df_expr.specs.Typing.{column_dtype_check}
use Rattle.df_expr.specs.Value.{is_null}
use Rattle.df_expr.proofs.Sound.{column_fits}
use Rattle.df_ops.specs.Aggregates.{cells_of, count_of, is_min_or_max, last_cell, min_or_max_of, non_null, sum_of}
use Rattle.df_ops.specs.NamedColumns.{with_columns}
use Rattle.df_ops.specs.Ranks.{dense_rank_of, min_rank_of}
use Rattle.df_ops.specs.RowWise.{named_cells, with_column_row}
use Rattle.df_ops.specs.Windows.{cum_sum_at, rolling_cell, rolling_dtype, window_value}
use Rattle.df_ops.specs.declared.min_max.MinMax.{MinMax}
use Rattle.df_ops.specs.declared.min_max.MinMax.TheVariants as end
use Rattle.df_ops.specs.declared.windows.RollKind.{RollKind}
use Rattle.df_ops.specs.declared.windows.RollKind.TheVariants as roll
use Rattle.df_ops.proofs.Beside.{Beside, with_columns-beside}

pub first_of_two : (a b : Bool) → IsTrue (a && b) → IsTrue a
first_of_two true b h = refl
first_of_two false b h = cc

pub second_of_two : (a b : Bool) → IsTrue (a && b) → IsTrue b
second_of_two true b h = h
second_of_two false b h = cc

pub both_true : (a b : Bool) → IsTrue a → IsTrue b → IsTrue (a && b)
both_true true b h k = k
both_true false b h k = cc

-- a cell stands beside a column of its name, whose type it fits
abbrev pub FitsBeside : List ℕ × CellType → List ℕ × Cell → Type 0
FitsBeside c v = (c.0 ≡ v.0) × IsTrue (fits_dtype c.1 v.1)

pub fits_row : (columns : Columns) (cells : List (List ℕ × Cell)) → Beside FitsBeside columns cells → IsTrue (row_fits columns (map (λ v. v.1) cells))
fits_row [] [] h = refl
fits_row [] (v ∷ cells) h = absurd h
fits_row (c ∷ columns) [] h = absurd h
fits_row (c ∷ columns) (v ∷ cells) h =
    both_true (fits_dtype c.1 v.1) (row_fits columns (map (λ v. v.1) cells)) h.0.1 (fits_row columns cells h.1)

pub own_beside : (columns : Columns) (row : List Cell) → IsTrue (row_fits columns row) → Beside FitsBeside columns (named_cells columns row)
own_beside [] [] h = tt
own_beside [] (v ∷ row) h = tt
own_beside (c ∷ columns) [] h = cc
own_beside (c ∷ columns) (v ∷ row) h =
    ((refl, first_of_two (fits_dtype c.1 v) (row_fits columns row) h), own_beside columns row (second_of_two (fits_dtype c.1 v) (row_fits columns row) h))

-- a row into which a cell is put
pub put_fits :
    (columns : Columns) (row : List Cell) → IsTrue (row_fits columns row) → (name : List ℕ) (t : CellType) (c : Cell) →
    IsTrue (fits_dtype t c) → IsTrue (row_fits (with_columns columns ((name, t) ∷ [])) (with_column_row columns name row c))
unfolding with_column_row
put_fits columns row fits name t c h =
    fits_row (with_columns columns ((name, t) ∷ [])) (with_columns (named_cells columns row) ((name, c) ∷ []))
    (with_columns-beside FitsBeside (λ c v h. h.0) columns (named_cells columns row) (own_beside columns row fits)
    ((name, t) ∷ []) ((name, c) ∷ []) ((refl, h), tt))

-- the cells of a column are null or of its type
pub cells_fit :
    (columns : Columns) (name : List ℕ) (t : CellType) → column_dtype name columns ≡ Some t → (rows : List (List Cell)) →
    IsTrue (rows_fit columns rows) → IsTrue (list_all (fits_dtype t) (cells_of (column_index name columns) rows))
cells_fit columns name t is [] h = refl
cells_fit columns name t is (r ∷ rs) h =
    both_true (fits_dtype t (cell_at (column_index name columns) r)) _
    (column_fits columns r (first_of_two (row_fits columns r) (rows_fit columns rs) h) name t (ap (column_dtype_check name) is))
    (cells_fit columns name t is rs (second_of_two (row_fits columns r) (rows_fit columns rs) h))

pub taken_pass : (q : Cell → Bool) (n : ℕ) (cs : List Cell) → IsTrue (list_all q cs) → IsTrue (list_all q (take n cs))
taken_pass q zero cs h = refl
taken_pass q (suc n) [] h = refl
taken_pass q (suc n) (c ∷ cs) h =
    both_true (q c) (list_all q (take n cs)) (first_of_two (q c) (list_all q cs) h) (taken_pass q n cs (second_of_two (q c) (list_all q cs) h))

pub left_pass : (q : Cell → Bool) (n : ℕ) (cs : List Cell) → IsTrue (list_all q cs) → IsTrue (list_all q (drop n cs))
left_pass q zero cs h = h
left_pass q (suc n) [] h = refl
left_pass q (suc n) (c ∷ cs) h = left_pass q n cs (second_of_two (q c) (list_all q cs) h)

kept_fit : (q : Cell → Bool) (c : Cell) (b : Bool) (cs kept : List Cell) → IsTrue (q c && list_all q cs) → IsTrue (list_all q kept) →
    IsTrue (list_all q (cond b (c ∷ kept) kept))
kept_fit q c true cs kept h k = both_true (q c) (list_all q kept) (first_of_two (q c) (list_all q cs) h) k
kept_fit q c false cs kept h k = k

filter_fits : (q p : Cell → Bool) (cs : List Cell) → IsTrue (list_all q cs) → IsTrue (list_all q (filter p cs))
filter_fits q p [] h = refl
filter_fits q p (c ∷ cs) h = kept_fit q c (p c) cs (filter p cs) h (filter_fits q p cs (second_of_two (q c) (list_all q cs) h))

chosen_fits : (q : Cell → Bool) (b : Bool) (c : Cell) (o : Option Cell) → IsTrue (q c) → IsTrue (q (unwrap_or o cell.Null)) →
    IsTrue (q (unwrap_or (cond b (Some c) o) cell.Null))
chosen_fits q true c o h k = h
chosen_fits q false c o h k = k

find_fits : (q p : Cell → Bool) (cs : List Cell) → IsTrue (q cell.Null) → IsTrue (list_all q cs) → IsTrue (q (unwrap_or (find p cs) cell.Null))
find_fits q p [] null h = null
find_fits q p (c ∷ cs) null h =
    chosen_fits q (p c) c (find p cs) (first_of_two (q c) (list_all q cs) h) (find_fits q p cs null (second_of_two (q c) (list_all q cs) h))

-- the least or the greatest of cells of one type
pub extreme_fits : (e : MinMax) (t : CellType) (cs : List Cell) → IsTrue (list_all (fits_dtype t) cs) → IsTrue (fits_dtype t (min_or_max_of e cs))
extreme_fits e t cs h =
    find_fits (fits_dtype t) (is_min_or_max e (non_null cs)) (non_null cs) refl (filter_fits (fits_dtype t) (λ c. not (is_null c)) cs h)

value_fits : (k : RollKind) (window : List Cell) → IsTrue (list_all (fits_dtype dtype.Int) window) → IsTrue (fits_dtype (rolling_dtype k) (window_value k window))
value_fits roll.Sum window h = refl
value_fits roll.Min window h = extreme_fits end.Min dtype.Int window h
value_fits roll.Max window h = extreme_fits end.Max dtype.Int window h

-- the value of a window of an Int column
pub window_fits :
    (k : RollKind) (m : ℕ) (window : List Cell) → IsTrue (list_all (fits_dtype dtype.Int) window) → IsTrue (fits_dtype (rolling_dtype k) (rolling_cell k m window))
window_fits k m window h =
    either (λ (c : Cell). IsTrue (fits_dtype (rolling_dtype k) c)) (nat_lt (count_of window) m) cell.Null (window_value k window) refl (value_fits k window h)

-- the cumulative sum at the last of any cells
pub running_fits : (cells : List Cell) → IsTrue (fits_dtype dtype.Wide (cum_sum_at cells))
running_fits cells =
    either (λ (c : Cell). IsTrue (fits_dtype dtype.Wide c)) (is_null (last_cell cells)) cell.Null (cell.Wide (sum_of cells)) refl refl

-- ranks among any rows
pub dense_fits : (distinct : List (List Cell)) (c : Cell) → IsTrue (fits_dtype dtype.Int (dense_rank_of distinct c))
dense_fits distinct c = either (λ (c : Cell). IsTrue (fits_dtype dtype.Int c)) (is_null c) cell.Null _ refl refl

pub min_fits : (place : Option ℕ) (others : List (List Cell)) (c : Cell) → IsTrue (fits_dtype dtype.Int (min_rank_of place others c))
min_fits place others c = either (λ (c : Cell). IsTrue (fits_dtype dtype.Int c)) (is_null c) cell.Null _ refl refl
