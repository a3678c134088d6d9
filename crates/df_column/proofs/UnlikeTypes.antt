-- Cells that stand in columns of two types are null.
use Rattle.std.proofs.Common.{◌≡◌, ◌∙◌, ◌+◌, ◌≤◌, ℕ, zero, suc, List, [], ◌∷◌, arith, get_or, length, true, refl, sym, subst}
use Rattle.std.specs.Prelude.{◌≢◌, ◌⊎◌, T}
use Rattle.std.specs.List.{list_all}
use Rattle.std.proofs.lemmas.Bool.{false≢true}
use Rattle.std.proofs.lemmas.List.{get_or_default}
use mathlib.Core.Logic.{inl, inr}
use Rattle.df_value.specs.Cells.{fits_dtype}
use Rattle.df_value.specs.declared.cell.Cell.{Cell}
use Rattle.df_value.specs.declared.cell.Cell.TheVariants as cell
use Rattle.df_value.specs.declared.cell.CellType.{CellType}
use Rattle.df_value.specs.declared.cell.CellType.TheVariants as dtype
use Rattle.df_column.specs.Columns.{column_cells, dtype_of_column}
use Rattle.df_column.specs.MinMaxCells.{is_null}
use Rattle.df_column.specs.RowRuns.{AreNull, AreThose}
use Rattle.df_column.specs.declared.column.Column.{Column}
use Rattle.df_column.proofs.Bools.{T-first, T-second}
use Rattle.df_column.proofs.FitLemmas.{cells_fit, null_fits}

-- the type of a cell; of a null any will do
own_type : Cell → CellType
own_type cell.Null = dtype.Int
own_type (cell.Int v) = dtype.Int
own_type (cell.Wide v) = dtype.Wide
own_type (cell.Text v) = dtype.Text
own_type (cell.Bool v) = dtype.Bool
own_type (cell.Frac v) = dtype.Frac

-- a cell that fits a type is null or has it
null_or_own : (t : CellType) (c : Cell) → T (fits_dtype t c) → (c ≡ cell.Null) ⊎ (t ≡ own_type c)
unfolding own_type
null_or_own t cell.Null h = inl refl
null_or_own dtype.Int (cell.Int v) h = inr refl
null_or_own dtype.Wide (cell.Int v) h = absurd h
null_or_own dtype.Text (cell.Int v) h = absurd h
null_or_own dtype.Bool (cell.Int v) h = absurd h
null_or_own dtype.Frac (cell.Int v) h = absurd h
null_or_own dtype.Int (cell.Wide v) h = absurd h
null_or_own dtype.Wide (cell.Wide v) h = inr refl
null_or_own dtype.Text (cell.Wide v) h = absurd h
null_or_own dtype.Bool (cell.Wide v) h = absurd h
null_or_own dtype.Frac (cell.Wide v) h = absurd h
null_or_own dtype.Int (cell.Text v) h = absurd h
null_or_own dtype.Wide (cell.Text v) h = absurd h
null_or_own dtype.Text (cell.Text v) h = inr refl
null_or_own dtype.Bool (cell.Text v) h = absurd h
null_or_own dtype.Frac (cell.Text v) h = absurd h
null_or_own dtype.Int (cell.Bool v) h = absurd h
null_or_own dtype.Wide (cell.Bool v) h = absurd h
null_or_own dtype.Text (cell.Bool v) h = absurd h
null_or_own dtype.Bool (cell.Bool v) h = inr refl
null_or_own dtype.Frac (cell.Bool v) h = absurd h
null_or_own dtype.Int (cell.Frac v) h = absurd h
null_or_own dtype.Wide (cell.Frac v) h = absurd h
null_or_own dtype.Text (cell.Frac v) h = absurd h
null_or_own dtype.Bool (cell.Frac v) h = absurd h
null_or_own dtype.Frac (cell.Frac v) h = inr refl

fit_at : (t : CellType) (cells : List Cell) (i : ℕ) → T (list_all (fits_dtype t) cells) → T (fits_dtype t (get_or cells i cell.Null))
fit_at t [] i h = null_fits t
fit_at t (c ∷ cells) zero h = T-first (fits_dtype t c) _ h
fit_at t (c ∷ cells) (suc i) h = fit_at t cells i (T-second (fits_dtype t c) _ h)

unlike_types : (a b : Column) → dtype_of_column a ≢ dtype_of_column b → (i j : ℕ) → get_or (column_cells a) i cell.Null ≡ get_or (column_cells b) j cell.Null → get_or (column_cells a) i cell.Null ≡ cell.Null
unlike_types a b unlike i j same =
    let t = dtype_of_column a in
    let u = dtype_of_column b in
    let c = get_or (column_cells a) i cell.Null in
    let fits = fit_at t (column_cells a) i (cells_fit a) in
    let fits_other = subst (λ x. T (fits_dtype u x)) (sym same) (fit_at u (column_cells b) j (cells_fit b)) in
    elim (null_or_own t c fits) [
      | inl e ↦ e
      | inr e ↦ elim (null_or_own u c fits_other) [
        | inl f ↦ f
        | inr f ↦ absurd (unlike (e ∙ sym f))
      ]
    ]

pub unlike_are_null : (a b : Column) → dtype_of_column a ≢ dtype_of_column b → (at from count : ℕ) → at + count ≤ length (column_cells a) → AreThose (column_cells a) at (column_cells b) from count → AreNull (column_cells a) at count
unlike_are_null a b unlike at from count within all = record {
  each = λ k d lt.
      get_or_default (column_cells a) (at + k) d cell.Null (omega (arith, within, lt)) ∙ unlike_types a b unlike (at + k) (from + k) (all.each k cell.Null lt);
}

pub null_is : (c : Cell) → is_null c ≡ true → c ≡ cell.Null
null_is cell.Null h = refl
null_is (cell.Int v) h = absurd (false≢true h)
null_is (cell.Wide v) h = absurd (false≢true h)
null_is (cell.Text v) h = absurd (false≢true h)
null_is (cell.Bool v) h = absurd (false≢true h)
null_is (cell.Frac v) h = absurd (false≢true h)
