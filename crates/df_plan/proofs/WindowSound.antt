-- The rows into which a column of rolling values, cumulative sums or ranks is put fit the result's columns.
use Rattle.std.proofs.Common.{◌≡◌, ℕ, ◌+◌, Bool, true, false, cond, zero, suc, List, [], ◌∷◌, length, take, map, refl}
use Rattle.std.specs.Prelude.{ℤ, IsTrue, Ok, Err, Option, Some, None}
use Rattle.std.specs.List.{list_all, range_with_len}
use Rattle.df_value.specs.declared.cell.Cell.{Cell}
use Rattle.df_value.specs.declared.cell.CellType.{CellType}
use Rattle.df_value.specs.declared.cell.CellType.TheVariants as dtype
use Rattle.df_value.specs.Cells.{fits_dtype}
use Rattle.df_value.specs.Rows.{row_fits, rows_fit, cell_at}
use Rattle.df_value.specs.Schemas.{doubled_column_after, column_dtype}
use Rattle.df_plan.specs.declared.fault.PlanFault.{PlanFault}
use Rattle.df_plan.specs.declared.fault.PlanFault.TheVariants as fault
use Rattle.df_ops.specs.declared.ranks.RankKind.{RankKind}
use Rattle.df_ops.specs.declared.ranks.RankKind.TheVariants as rank
use Rattle.df_ops.specs.declared.windows.RollKind.{RollKind}
use Rattle.df_value.specs.Schemas.{Columns}
use Rattle.df_plan.specs.ItemChecks.{CheckResult, DtypeResult, key_dtype}
use Rattle.df_ops.specs.NamedColumns.{with_columns}
use Rattle.df_ops.specs.Ranks.{dense_rank_of, distinct_at, min_rank_of, ranks_of}
use Rattle.df_ops.specs.RowWise.{with_column_row, with_column_rows}
use Rattle.df_plan.specs.WindowChecks.{cum_sum_check, is_window, output_column_check, rank_check, rolling_check, int_column_dtype}
use Rattle.df_ops.specs.Windows.{rolling_dtype}
use Rattle.df_ops.specs.Windows.{rolling_cells, rolling_cell, cum_sum, cum_sum_at, window_of}
use Rattle.df_ops.proofs.FitCells.{dense_fits, left_pass, min_fits, put_fits, running_fits, taken_pass, window_fits}
use Rattle.df_plan.proofs.Found.{settled_is_at}
use Rattle.df_plan.proofs.RowWiseSound.{both_true, first_of_two, second_of_two}

abbrev Rows : Type 0
Rows = List (List Cell)

pub puts_fit :
    (columns : Columns) (name : List ℕ) (t : CellType) (rows : Rows) (cells : List Cell) → IsTrue (rows_fit columns rows) →
    IsTrue (list_all (fits_dtype t) cells) → IsTrue (rows_fit (with_columns columns ((name, t) ∷ [])) (with_column_rows columns name rows cells))
puts_fit columns name t [] [] h k = refl
puts_fit columns name t [] (c ∷ cells) h k = refl
puts_fit columns name t (r ∷ rows) [] h k = refl
puts_fit columns name t (r ∷ rows) (c ∷ cells) h k =
    both_true (row_fits (with_columns columns ((name, t) ∷ [])) (with_column_row columns name r c)) _
    (put_fits columns r (first_of_two (row_fits columns r) (rows_fit columns rows) h) name t c (first_of_two (fits_dtype t c) (list_all (fits_dtype t) cells) k))
    (puts_fit columns name t rows cells (second_of_two (row_fits columns r) (rows_fit columns rows) h) (second_of_two (fits_dtype t c) (list_all (fits_dtype t) cells) k))

each_passes : (q : Cell → Bool) (f : ℕ → Cell) → ((i : ℕ) → IsTrue (q (f i))) → (a n : ℕ) → IsTrue (list_all q (map f (range_with_len a n)))
each_passes q f h a zero = refl
each_passes q f h a (suc n) = both_true (q (f a)) (list_all q (map f (range_with_len (a + 1) n))) (h a) (each_passes q f h (a + 1) n)

-- the rolling values of an Int column fit their type
pub rolled_fits :
    (k : RollKind) (w m : ℕ) (cells : List Cell) → IsTrue (list_all (fits_dtype dtype.Int) cells) → IsTrue (list_all (fits_dtype (rolling_dtype k)) (rolling_cells k w m cells))
rolled_fits k w m cells h =
    each_passes (fits_dtype (rolling_dtype k)) (λ i. rolling_cell k m (window_of w (take (i + 1) cells)))
    (λ i. window_fits k m (window_of w (take (i + 1) cells))
    (left_pass (fits_dtype dtype.Int) _ (take (i + 1) cells) (taken_pass (fits_dtype dtype.Int) (i + 1) cells h)))
    0 (length cells)

pub sums_fit : (cells : List Cell) → IsTrue (list_all (fits_dtype dtype.Wide) (cum_sum cells))
sums_fit cells =
    each_passes (fits_dtype dtype.Wide) (λ i. cum_sum_at (take (i + 1) cells)) (λ i. running_fits (take (i + 1) cells)) 0 (length cells)

each_dense_fits : (distinct : Rows) (place : Option ℕ) (rows : Rows) →
    IsTrue (list_all (fits_dtype dtype.Int) (map (λ r. dense_rank_of distinct (cell_at place r)) rows))
each_dense_fits distinct place [] = refl
each_dense_fits distinct place (r ∷ rows) =
    both_true (fits_dtype dtype.Int (dense_rank_of distinct (cell_at place r))) _ (dense_fits distinct (cell_at place r)) (each_dense_fits distinct place rows)

each_min_fits : (among : Option ℕ) (others : Rows) (place : Option ℕ) (rows : Rows) →
    IsTrue (list_all (fits_dtype dtype.Int) (map (λ r. min_rank_of among others (cell_at place r)) rows))
each_min_fits among others place [] = refl
each_min_fits among others place (r ∷ rows) =
    both_true (fits_dtype dtype.Int (min_rank_of among others (cell_at place r))) _ (min_fits among others (cell_at place r))
    (each_min_fits among others place rows)

pub ranks_fit : (k : RankKind) (place : Option ℕ) (rows : Rows) → IsTrue (list_all (fits_dtype dtype.Int) (ranks_of k place rows))
ranks_fit rank.Dense place rows = each_dense_fits (distinct_at place rows) place rows
ranks_fit rank.Min place rows = each_min_fits place rows place rows

-- the columns of a result into which this one was put
abbrev pub IsPut : Columns → List ℕ → CellType → Columns → Type 0
IsPut columns name t cs = cs ≡ with_columns columns ((name, t) ∷ [])

output_found :
    (columns : Columns) (name : List ℕ) (t : CellType) (k : DtypeResult) (cs : Columns) → output_column_check columns name t k ≡ Ok cs →
    IsPut columns name t cs × ((u : CellType) × (k ≡ Ok u))
output_found columns name t (Ok u) cs h = (settled_is_at (with_columns columns ((name, t) ∷ [])) (doubled_column_after [] ((name, t) ∷ [])) cs h, (u, refl))
output_found columns name t (Err f) cs h = cc

whole_is : (name : List ℕ) (o : Option CellType) (u : CellType) → int_column_dtype name o ≡ Ok u → o ≡ Some dtype.Int
whole_is name None u h = cc
whole_is name (Some dtype.Int) u h = refl
whole_is name (Some dtype.Wide) u h = cc
whole_is name (Some dtype.Text) u h = cc
whole_is name (Some dtype.Bool) u h = cc
whole_is name (Some dtype.Frac) u h = cc

-- a column is there and is Int
abbrev pub IsWhole : List ℕ → Columns → Type 0
IsWhole column columns = column_dtype column columns ≡ Some dtype.Int

pub cum_sum_found :
    (name column : List ℕ) (columns cs : Columns) → cum_sum_check columns name column ≡ Ok cs → IsPut columns name dtype.Wide cs × IsWhole column columns
cum_sum_found name column columns cs h =
    let found = output_found columns name dtype.Wide (int_column_dtype column (column_dtype column columns)) cs h in
    (found.0, whole_is column (column_dtype column columns) found.1.0 found.1.1)

chosen_ok : (b : Bool) (c : CheckResult) (f : PlanFault) (cs : Columns) → cond {A = CheckResult} b c (Err f) ≡ Ok cs → c ≡ Ok cs
chosen_ok true c f cs h = h
chosen_ok false c f cs h = cc

pub roll_found :
    (name : List ℕ) (k : RollKind) (column : List ℕ) (w m : ℤ) (columns cs : Columns) → rolling_check columns name k column w m ≡ Ok cs →
    IsPut columns name (rolling_dtype k) cs × IsWhole column columns
roll_found name k column w m columns cs h =
    let typed = int_column_dtype column (column_dtype column columns) in
    let found = output_found columns name (rolling_dtype k) typed cs (chosen_ok (is_window w m) (output_column_check columns name (rolling_dtype k) typed) fault.BadWindow cs h) in
    (found.0, whole_is column (column_dtype column columns) found.1.0 found.1.1)

pub rank_found :
    (name column : List ℕ) (columns cs : Columns) → rank_check columns name column ≡ Ok cs → IsPut columns name dtype.Int cs × Unit {0}
rank_found name column columns cs h = ((output_found columns name dtype.Int (key_dtype column (column_dtype column columns)) cs h).0, tt)
