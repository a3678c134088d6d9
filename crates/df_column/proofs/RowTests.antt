-- The test of a row, cell by cell.
use Rattle.std.proofs.Common.{◌≡◌, ◌<◌, ◌≤◌, ◌+◌, ℕ, zero, suc, Bool, true, false, List, [], ◌∷◌, map, drop, length, get_or, refl, sym, ap, ◌∙◌, arith}
use Rattle.std.specs.Prelude.{◌&&◌, ◌≢◌}
use Rattle.std.proofs.lemmas.List.{drop_more}
use Rattle.df_value.specs.CellEq.{cell_eq}
use Rattle.df_value.specs.Rows.{row_eq}
use Rattle.df_value.specs.declared.cell.Cell.{Cell}
use Rattle.df_value.specs.declared.cell.Cell.TheVariants as cell
use Rattle.df_column.specs.Columns.{column_cells}
use Rattle.df_column.specs.Rows.{row_at}
use Rattle.df_column.specs.declared.column.Column.{Column}

-- the test of the cells from an index on
abbrev pub test_from : List Column → ℕ → List Cell → ℕ → Bool
test_from columns at cells i = row_eq (row_at (map column_cells (drop i columns)) at) (drop i cells)

pub test_step : (columns : List Column) (cells : List Cell) (at i : ℕ) (c : Column) (v : Cell) → i < length columns → i < length cells → c ≡ get_or columns i c → v ≡ get_or cells i v
    → test_from columns at cells i ≡ (cell_eq (get_or (column_cells c) at cell.Null) v && test_from columns at cells (i + 1))
test_step columns cells at i c v h k p q =
    ap (λ l. row_eq (row_at (map column_cells l) at) (drop i cells)) (drop_more columns i c h)
    ∙ ap (λ l. row_eq (row_at (map column_cells (get_or columns i c ∷ drop (i + 1) columns)) at) l) (drop_more cells i v k)
    ∙ ap (λ x. cell_eq (get_or (column_cells x) at cell.Null) (get_or cells i v) && test_from columns at cells (i + 1)) (sym p)
    ∙ ap (λ y. cell_eq (get_or (column_cells c) at cell.Null) y && test_from columns at cells (i + 1)) (sym q)

past : {X : Type 0} (xs : List X) (i : ℕ) → length xs ≤ i → drop i xs ≡ []
past [] zero h = refl
past [] (suc i) h = refl
past (x ∷ xs) zero h = absurd (omega arith)
past (x ∷ xs) (suc i) h = past xs i (omega arith)

pub test_end : (columns : List Column) (cells : List Cell) (at i : ℕ) → length columns ≤ i → length cells ≤ i → test_from columns at cells i ≡ true
test_end columns cells at i h k =
    ap (λ l. row_eq (row_at (map column_cells l) at) (drop i cells)) (past columns i h)
    ∙ ap (λ l. row_eq [] l) (past cells i k)

no : (b : Bool) → (b && false) ≡ false
no true = refl
no false = refl

pub uneven : (columns : List Column) (cells : List Cell) (at : ℕ) → length columns ≢ length cells → row_eq (row_at (map column_cells columns) at) cells ≡ false
uneven [] [] at h = absurd (h refl)
uneven [] (v ∷ cells) at h = refl
uneven (c ∷ columns) [] at h = refl
uneven (c ∷ columns) (v ∷ cells) at h =
    ap (λ b. cell_eq (get_or (column_cells c) at cell.Null) v && b) (uneven columns cells at (λ e. h (ap suc e)))
    ∙ no (cell_eq (get_or (column_cells c) at cell.Null) v)
