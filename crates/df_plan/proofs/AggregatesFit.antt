-- An aggregate of rows that fit has the type that its check found.
use Rattle.std.proofs.Common.{◌≡◌, ℕ, zero, suc, Bool, List, [], ◌∷◌, length, refl, sym, ap, subst, ◌∙◌, arith}
use Rattle.std.specs.Prelude.{IsTrue, ℤ, pos, Option, Some, None, Ok, ◌-◌, slice_get, unwrap_or}
use Rattle.std.specs.List.{list_all}
use Rattle.std.proofs.lemmas.Grind.{common_steps}
use Rattle.df_value.specs.declared.cell.Cell.{Cell}
use Rattle.df_value.specs.declared.cell.Cell.TheVariants as cell
use Rattle.df_value.specs.declared.cell.CellType.{CellType}
use Rattle.df_value.specs.declared.cell.CellType.TheVariants as dtype
use Rattle.df_value.specs.Cells.{fits_dtype}
use Rattle.df_value.specs.Rows.{rows_fit}
use Rattle.df_value.specs.Schemas.{column_dtype, column_index}
use Rattle.df_ops.specs.declared.min_max.MinMax.TheVariants as end
use Rattle.df_ops.specs.declared.agg.Agg.{Agg}
use Rattle.df_ops.specs.declared.agg.Agg.TheVariants as agg
use Rattle.df_ops.specs.Aggregates.{cells_of, count_of, sum_of, first_cell, last_cell, mean_at}
use Rattle.df_ops.specs.AggregateDtypes.{input_column, output_dtype}
use Rattle.df_value.specs.Schemas.{Columns}
use Rattle.df_ops.proofs.FitCells.{cells_fit, extreme_fits, first_of_two, second_of_two}
use Rattle.df_plan.specs.ItemChecks.{aggregate_dtype_check, aggregate_dtype_over, column_aggregate_dtype, accepted_dtype}
use Rattle.df_ops.specs.Tables.{aggregate_cell, aggregate_dtype, output_dtype_over}

abbrev Rows : Type 0
Rows = List (List Cell)

at_fits : (q : Cell → Bool) (cs : List Cell) (i : ℕ) → IsTrue (q cell.Null) → IsTrue (list_all q cs) → IsTrue (q (unwrap_or (slice_get cs i) cell.Null))
at_fits q [] i null h = null
at_fits q (c ∷ cs) zero null h = first_of_two (q c) (list_all q cs) h
at_fits q (c ∷ cs) (suc i) null h = at_fits q cs i null (second_of_two (q c) (list_all q cs) h)

mean_fits : (s : ℤ) (n : ℕ) → IsTrue (fits_dtype dtype.Frac (mean_at s n))
mean_fits s zero = refl
mean_fits s (suc n) = refl

-- what is known of the type of an aggregate's result
has_dtype : (k u : CellType) (c : Cell) → k ≡ u → IsTrue (fits_dtype k c) → IsTrue (fits_dtype u c)
has_dtype k u c e h = subst (λ z. IsTrue (fits_dtype z c)) e h

min_dtype : (name : List ℕ) (t u : CellType) → output_dtype (agg.Min name) t ≡ Some u → t ≡ u
min_dtype name t u h = grind (arith, common_steps)

max_dtype : (name : List ℕ) (t u : CellType) → output_dtype (agg.Max name) t ≡ Some u → t ≡ u
max_dtype name t u h = grind (arith, common_steps)

sum_dtype : (name : List ℕ) (t u : CellType) → output_dtype (agg.Sum name) t ≡ Some u → dtype.Wide ≡ u
sum_dtype name t u h = grind (arith, common_steps)

n_unique_dtype : (name : List ℕ) (t u : CellType) → output_dtype (agg.NUnique name) t ≡ Some u → dtype.Int ≡ u
n_unique_dtype name t u h = grind (arith, common_steps)

mean_dtype : (name : List ℕ) (t u : CellType) → output_dtype (agg.Mean name) t ≡ Some u → dtype.Frac ≡ u
mean_dtype name t u h = grind (arith, common_steps)

-- the aggregate of a column of type t, where its type is u
given_fits :
    (columns : Columns) (rows : Rows) (name : List ℕ) (t : CellType) → column_dtype name columns ≡ Some t →
    IsTrue (rows_fit columns rows) → (a : Agg) → input_column a ≡ Some name → (u : CellType) → output_dtype a t ≡ Some u →
    IsTrue (fits_dtype u (aggregate_cell columns rows a))
given_fits columns rows name t is fit agg.Len taken u given = cc
given_fits columns rows name t is fit (agg.Count c) taken u given =
    let e : dtype.Int ≡ u = cc in has_dtype dtype.Int u (aggregate_cell columns rows (agg.Count c)) e refl
given_fits columns rows name t is fit (agg.Sum c) taken u given = has_dtype dtype.Wide u (aggregate_cell columns rows (agg.Sum c)) (sum_dtype c t u given) refl
given_fits columns rows name t is fit (agg.Min c) taken u given =
    let named : c ≡ name = cc in
    has_dtype t u (aggregate_cell columns rows (agg.Min c)) (min_dtype c t u given) (extreme_fits end.Min t (cells_of (column_index c columns) rows) (cells_fit columns c t (ap (λ n. column_dtype n columns) named ∙ is) rows fit))
given_fits columns rows name t is fit (agg.Max c) taken u given =
    let named : c ≡ name = cc in
    has_dtype t u (aggregate_cell columns rows (agg.Max c)) (max_dtype c t u given) (extreme_fits end.Max t (cells_of (column_index c columns) rows) (cells_fit columns c t (ap (λ n. column_dtype n columns) named ∙ is) rows fit))
given_fits columns rows name t is fit (agg.First c) taken u given =
    let named : c ≡ name = cc in
    let e : t ≡ u = cc in
    has_dtype t u (first_cell (cells_of (column_index c columns) rows)) e (at_fits (fits_dtype t) (cells_of (column_index c columns) rows) 0 refl (cells_fit columns c t (ap (λ n. column_dtype n columns) named ∙ is) rows fit))
given_fits columns rows name t is fit (agg.Last c) taken u given =
    let named : c ≡ name = cc in
    let e : t ≡ u = cc in
    let cells = cells_of (column_index c columns) rows in
    has_dtype t u (last_cell cells) e (at_fits (fits_dtype t) cells (length cells - 1) refl (cells_fit columns c t (ap (λ n. column_dtype n columns) named ∙ is) rows fit))
given_fits columns rows name t is fit (agg.NUnique c) taken u given = has_dtype dtype.Int u (aggregate_cell columns rows (agg.NUnique c)) (n_unique_dtype c t u given) refl
given_fits columns rows name t is fit (agg.Mean c) taken u given =
    has_dtype dtype.Frac u (aggregate_cell columns rows (agg.Mean c)) (mean_dtype c t u given) (mean_fits (sum_of (cells_of (column_index c columns) rows)) (count_of (cells_of (column_index c columns) rows)))

given_found : (name : List ℕ) (o : Option CellType) (u : CellType) → accepted_dtype name o ≡ Ok u → o ≡ Some u
given_found name None u h = cc
given_found name (Some t) u h = cc

given_is :
    (columns : Columns) (rows : Rows) → IsTrue (rows_fit columns rows) → (a : Agg) (name : List ℕ) → input_column a ≡ Some name →
    (o : Option CellType) → column_dtype name columns ≡ o → (u : CellType) → column_aggregate_dtype name a o ≡ Ok u →
    (u ≡ unwrap_or (output_dtype a (unwrap_or o dtype.Int)) dtype.Int) × IsTrue (fits_dtype u (aggregate_cell columns rows a))
given_is columns rows fit a name taken None is u h = cc
given_is columns rows fit a name taken (Some t) is u h =
    let found = given_found name (output_dtype a t) u h in
    (rw found refl, given_fits columns rows name t is fit a taken u found)

taken_is :
    (columns : Columns) (rows : Rows) → IsTrue (rows_fit columns rows) → (a : Agg) (o : Option (List ℕ)) → input_column a ≡ o →
    (u : CellType) → aggregate_dtype_over columns a o ≡ Ok u →
    (u ≡ output_dtype_over columns a o) × IsTrue (fits_dtype u (aggregate_cell columns rows a))
taken_is columns rows fit agg.Len None is u h = let e : dtype.Int ≡ u = cc in (sym e, has_dtype dtype.Int u (cell.Int (pos (length rows))) e refl)
taken_is columns rows fit (agg.Count c) None is u h = cc
taken_is columns rows fit (agg.Sum c) None is u h = cc
taken_is columns rows fit (agg.Min c) None is u h = cc
taken_is columns rows fit (agg.Max c) None is u h = cc
taken_is columns rows fit (agg.First c) None is u h = cc
taken_is columns rows fit (agg.Last c) None is u h = cc
taken_is columns rows fit (agg.NUnique c) None is u h = cc
taken_is columns rows fit (agg.Mean c) None is u h = cc
taken_is columns rows fit a (Some name) is u h = given_is columns rows fit a name is (column_dtype name columns) refl u h

-- where an aggregate checks, its type is the one in the result's columns, and its value fits it
pub aggregate_fits :
    (columns : Columns) (rows : Rows) → IsTrue (rows_fit columns rows) → (a : Agg) (u : CellType) → aggregate_dtype_check columns a ≡ Ok u →
    (u ≡ aggregate_dtype columns a) × IsTrue (fits_dtype u (aggregate_cell columns rows a))
aggregate_fits columns rows fit a u h = taken_is columns rows fit a (input_column a) refl u h
