-- Blocks that are made along picks, column by column.
use Rattle.std.proofs.Common.{◌≡◌, ℕ, zero, suc, ◌+◌, ◌-◌, ◌<◌, ◌≤◌, List, [], ◌∷◌, ◌++◌, length, map, drop, get_or, refl, sym, ap, subst, ◌∙◌, arith, append_assoc, eq-eqb}
use Rattle.std.specs.Prelude.{T, ◌==◌}
use Rattle.std.proofs.lemmas.Bool.{eqb-true}
use Rattle.df_value.specs.Cells.{fits_dtype}
use Rattle.df_value.specs.declared.cell.Cell.{Cell}
use Rattle.df_value.specs.declared.cell.Cell.TheVariants as cell
use Rattle.df_value.specs.declared.cell.CellType.{CellType}
use Rattle.df_column.specs.Blocks.{IsBlock}
use Rattle.df_column.specs.Columns.{column_cells, dtype_of_column}
use Rattle.df_column.specs.Picks.{AreFit, is_fit, origin_cell, picked_cells, spliced}
use Rattle.df_column.specs.Rows.{AreRows, are_even, is_new_row, is_row, spliced_columns, tagged_rows, picked_rows}
use Rattle.df_column.specs.Sizes.{most_rows}
use Rattle.df_column.specs.declared.column.Column.{Column}
use Rattle.df_column.specs.declared.picks.Origin.{Origin}
use Rattle.df_column.specs.declared.picks.Origin.TheVariants.{Old, New}
use Rattle.df_column.specs.declared.picks.Pick.{Pick}
use Rattle.df_column.specs.declared.tag.Tag.{Tag}
use Rattle.df_column.proofs.Bools.{T-both, T-first, T-second, true_from_T}
use Rattle.df_column.proofs.Places.{mapped_at, mapped_length}
use Rattle.df_column.proofs.RowLemmas.{rows_made}
use Rattle.df_column.proofs.SpliceLemmas.{spliced_length}

-- one of the columns
pub even_at : (n : ℕ) (columns : List Column) (at : ℕ) (d : Column) → T (are_even n (map column_cells columns)) → at < length columns → length (column_cells (get_or columns at d)) ≡ n
even_at n [] at d h lt = absurd (omega arith)
even_at n (c ∷ cs) zero d h lt = eqb-true (length (column_cells c)) n (true_from_T _ (T-first (length (column_cells c) == n) _ h))
even_at n (c ∷ cs) (suc at) d h lt = even_at n cs at d (T-second (length (column_cells c) == n) _ h) (omega arith)

fit_cell : (dtypes : List CellType) (row : List Cell) (at : ℕ) (d : CellType) → T (is_row dtypes row) → at < length dtypes → T (fits_dtype (get_or dtypes at d) (get_or row at cell.Null))
fit_cell [] row at d h lt = absurd (omega arith)
fit_cell (t ∷ ts) [] at d h lt = absurd h
fit_cell (t ∷ ts) (c ∷ row) zero d h lt = T-first (fits_dtype t c) _ h
fit_cell (t ∷ ts) (c ∷ row) (suc at) d h lt = fit_cell ts row at d (T-second (fits_dtype t c) _ h) (omega arith)

fit_origin : (dtypes : List CellType) (o : Origin) (at : ℕ) (d : CellType) → T (is_new_row dtypes o) → at < length dtypes → T (is_fit (get_or dtypes at d) at o)
fit_origin dtypes (Old i) at d h lt = tt
fit_origin dtypes (New row) at d h lt = fit_cell dtypes row.now at d h lt

fit_types : (dtypes : List CellType) (picks : List Pick) (at : ℕ) (d : CellType) → AreRows dtypes picks → at < length dtypes → AreFit (get_or dtypes at d) at picks
fit_types dtypes [] at d h lt = tt
fit_types dtypes (p ∷ picks) at d h lt = T-both _ _ (fit_origin dtypes p.origin at d (T-first (is_new_row dtypes p.origin) _ h) lt) (fit_types dtypes picks at d (T-second (is_new_row dtypes p.origin) _ h) lt)

pub fit_at : (columns : List Column) (picks : List Pick) (at : ℕ) (d : Column) → AreRows (map dtype_of_column columns) picks → at < length columns → AreFit (dtype_of_column (get_or columns at d)) at picks
fit_at columns picks at d h lt =
    let l = mapped_length dtype_of_column columns in
    subst (λ t. AreFit t at picks) (mapped_at dtype_of_column columns at (dtype_of_column d) d lt) (fit_types (map dtype_of_column columns) picks at (dtype_of_column d) h (omega (arith, l, lt)))

-- one column more
drop_column : (columns : List Column) (at : ℕ) (d : Column) → at < length columns → drop at columns ≡ get_or columns at d ∷ drop (at + 1) columns
drop_column [] at d h = absurd (omega arith)
drop_column (c ∷ cs) zero d h = refl
drop_column (c ∷ cs) (suc at) d h =
    let e : suc (at + 1) ≡ suc at + 1 = omega arith in
    drop_column cs at d (omega arith) ∙ ap (λ n. get_or cs at d ∷ drop n (c ∷ cs)) e

map_push : {X Y : Type 0} (f : X → Y) (xs : List X) (x : X) → map f (xs ++ x ∷ []) ≡ map f xs ++ f x ∷ []
map_push f [] x = refl
map_push f (y ∷ xs) x = ap (λ r. f y ∷ r) (map_push f xs x)

pub column_step : (low high : ℕ) (columns out : List Column) (picks : List Pick) (at : ℕ) (c : Column) → at < length columns
    → ((d : Column) → column_cells c ≡ spliced low high (picked_cells (column_cells (get_or columns at d)) at picks) (column_cells (get_or columns at d)))
    → ((d : Column) → dtype_of_column c ≡ dtype_of_column (get_or columns at d))
    → record {
      cells : map column_cells (out ++ c ∷ []) ++ spliced_columns low high (at + 1) (map column_cells (drop (at + 1) columns)) picks ≡ map column_cells out ++ spliced_columns low high at (map column_cells (drop at columns)) picks;
      dtypes : map dtype_of_column (out ++ c ∷ []) ++ map dtype_of_column (drop (at + 1) columns) ≡ map dtype_of_column out ++ map dtype_of_column (drop at columns);
    }
column_step low high columns out picks at c lt cells dtype =
    let cut = drop_column columns at c lt in
    let later = spliced_columns low high (at + 1) (map column_cells (drop (at + 1) columns)) picks in
    record {
      cells = ap (λ r. r ++ later) (map_push column_cells out c)
          ∙ append_assoc (map column_cells out) (column_cells c ∷ []) later
          ∙ ap (λ r. map column_cells out ++ r ∷ later) (cells c)
          ∙ ap (λ cs. map column_cells out ++ spliced_columns low high at (map column_cells cs) picks) (sym cut);
      dtypes = ap (λ r. r ++ map dtype_of_column (drop (at + 1) columns)) (map_push dtype_of_column out c)
          ∙ append_assoc (map dtype_of_column out) (dtype_of_column c ∷ []) (map dtype_of_column (drop (at + 1) columns))
          ∙ ap (λ t. map dtype_of_column out ++ t ∷ map dtype_of_column (drop (at + 1) columns)) (dtype c)
          ∙ ap (λ cs. map dtype_of_column out ++ map dtype_of_column cs) (sym cut);
    }

-- the block of all of them
spliced_even : (low high at : ℕ) (columns : List (List Cell)) (picks : List Pick) (ts : List Tag) → low ≤ high → high ≤ length ts → T (are_even (length ts) columns)
    → T (are_even (length (spliced low high (map (λ p. p.tag) picks) ts)) (spliced_columns low high at columns picks))
spliced_even low high at [] picks ts p q h = tt
spliced_even low high at (c ∷ cs) picks ts p q h =
    let same = eqb-true (length c) (length ts) (true_from_T _ (T-first (length c == length ts) _ h)) in
    let a = spliced_length low high (picked_cells c at picks) c p (omega (arith, same, q)) in
    let b = spliced_length low high (map (λ p. p.tag) picks) ts p q in
    let k = mapped_length (λ p. p.tag) picks in
    let m = mapped_length (λ p. origin_cell c at p.origin) picks in
    let all : length (spliced low high (picked_cells c at picks) c) ≡ length (spliced low high (map (λ p. p.tag) picks) ts) = omega (arith, same, a, b, k, m) in
    T-both _ _ (subst T (sym (eq-eqb _ _ all)) tt) (spliced_even low high (at + 1) cs picks ts p q (T-second (length c == length ts) _ h))

pub block_made : (low high : ℕ) (ts made_tags : List Tag) (columns made : List Column) (picks : List Pick) → low ≤ high → high ≤ length ts → T (are_even (length ts) (map column_cells columns)) → AreRows (map dtype_of_column columns) picks
    → 0 < low + length picks + (length ts - high) → low + length picks + (length ts - high) ≤ most_rows
    → made_tags ≡ spliced low high (map (λ p. p.tag) picks) ts → map column_cells made ≡ spliced_columns low high 0 (map column_cells columns) picks
    → record { sound : IsBlock made_tags made; rows : tagged_rows made_tags (map column_cells made) ≡ spliced low high (picked_rows (map column_cells columns) picks) (tagged_rows ts (map column_cells columns)) }
block_made low high ts made_tags columns made picks p q even rows some few tags cells =
    let new_tags = spliced low high (map (λ p. p.tag) picks) ts in
    let b = spliced_length low high (map (λ p. p.tag) picks) ts p q in
    let k = mapped_length (λ p. p.tag) picks in
    let n = ap length tags in
    let types = mapped_length dtype_of_column columns ∙ sym (mapped_length column_cells columns) in
    record {
      sound = record {
        some = omega (arith, b, k, n, some);
        few = omega (arith, b, k, n, few);
        even = subst (λ ts. T (are_even (length ts) (map column_cells made))) (sym tags) (subst (λ cs. T (are_even (length new_tags) cs)) (sym cells) (spliced_even low high 0 (map column_cells columns) picks ts p q even));
      };
      rows = ap (λ ts. tagged_rows ts (map column_cells made)) tags
          ∙ ap (tagged_rows new_tags) cells
          ∙ rows_made low high ts (map column_cells columns) (map dtype_of_column columns) picks even types rows;
    }
