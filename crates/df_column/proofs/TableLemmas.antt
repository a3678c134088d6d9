-- The blocks of a table, one by one, and its rows as a map.
use Rattle.std.proofs.Common.{◌≡◌, ℕ, zero, suc, ◌+◌, ◌<◌, ◌≤◌, List, [], ◌∷◌, ◌++◌, Option, Some, None, length, map, drop, take, get_or, refl, sym, ap, subst, ◌∙◌, arith}
use Rattle.std.specs.Prelude.{T}
use Rattle.std.specs.FinMap as finite
use Rattle.df_value.specs.Cells.{fits_dtype}
use Rattle.df_value.specs.Rows.{row_fits}
use Rattle.df_value.specs.declared.cell.Cell.{Cell}
use Rattle.df_value.specs.declared.cell.CellType.{CellType}
use Rattle.df_column.specs.Blocks.{AreOfDtypes, BlockParts, block_rows, rows_of_blocks}
use Rattle.df_column.specs.Changes.{IsHead, after_changes, applied}
use Rattle.df_column.specs.Columns.{dtype_of_column}
use Rattle.df_column.specs.Rows.{AreNewRows, is_row, is_row_if_any}
use Rattle.df_column.specs.Tables.{NewRowsFit, AreRising, TableParts, TaggedRows, after_entries, entry_change, new_row_fits, dtypes_of}
use Rattle.df_column.specs.Tags.{tag_cmp}
use Rattle.df_column.specs.declared.entry.Entry.{Entry}
use Rattle.df_column.specs.declared.tag.Tag.{Tag}
use Rattle.df_column.proofs.Bools.{T-both, T-first, T-second}
use Rattle.df_column.proofs.MergeLemmas.{drop_at}
use Rattle.df_column.proofs.TableChanges.{applied_cells, applied_sorted}

pub rows_step : (bs : List BlockParts) (i : ℕ) (b : BlockParts) → i < length bs → b ≡ get_or bs i b → rows_of_blocks (drop i bs) ≡ block_rows b ++ rows_of_blocks (drop (i + 1) bs)
rows_step bs i b h e = ap rows_of_blocks (drop_at bs i b h ∙ ap (λ c. c ∷ drop (i + 1) bs) (sym e))

-- the first of the blocks from one index up to another
pub cut_between : (bs : List BlockParts) (at end : ℕ) (b : BlockParts) → at < end → end ≤ length bs → b ≡ get_or bs at b → drop at (take end bs) ≡ b ∷ drop (at + 1) (take end bs)
cut_between bs at zero b lt le e = absurd (omega arith)
cut_between [] at (suc end) b lt le e = absurd (omega arith)
cut_between (x ∷ bs) zero (suc end) b lt le e = ap (λ c. c ∷ take end bs) (sym e)
cut_between (x ∷ bs) (suc at) (suc end) b lt le e =
    let n : at + 1 ≡ suc at = omega arith in
    let m : suc at + 1 ≡ suc (at + 1) = omega arith in
    cut_between bs at end b (omega arith) (omega arith) e ∙ ap (λ k. b ∷ drop k (x ∷ take end bs)) (sym m)

pub types_at : (dtypes : List CellType) (bs : List BlockParts) (i : ℕ) (b : BlockParts) → i < length bs → b ≡ get_or bs i b → AreOfDtypes dtypes bs → map dtype_of_column b.columns ≡ dtypes
types_at dtypes [] i b lt e h = absurd (omega arith)
types_at dtypes (x ∷ bs) zero b lt e h = ap (λ b. map dtype_of_column b.columns) e ∙ h.0
types_at dtypes (x ∷ bs) (suc i) b lt e h = types_at dtypes bs i b (omega arith) e h.1

head_first : (xs ys : List (Tag × List Cell)) (k : Tag) → IsHead xs k → IsHead (xs ++ ys) k
head_first [] ys k h = absurd h
head_first (x ∷ xs) ys k h = h

pub head_between : (bs : List BlockParts) (at end : ℕ) (b : BlockParts) (k : Tag) → at < end → end ≤ length bs → b ≡ get_or bs at b → IsHead (block_rows b) k → IsHead (rows_of_blocks (drop at (take end bs))) k
head_between bs at end b k lt le e h =
    subst (λ cs. IsHead (rows_of_blocks cs) k) (sym (cut_between bs at end b lt le e)) (head_first (block_rows b) (rows_of_blocks (drop (at + 1) (take end bs))) k h)

pub head_of_first : (bs : List BlockParts) (b : BlockParts) (k : Tag) → 0 < length bs → b ≡ get_or bs 0 b → IsHead (block_rows b) k → IsHead (rows_of_blocks bs) k
head_of_first [] b k lt e h = absurd (omega (arith, lt))
head_of_first (c ∷ bs) b k lt e h = head_first (block_rows c) (rows_of_blocks bs) k (subst (λ p. IsHead (block_rows p) k) e h)

-- rows that fit a schema are rows of its types
pub fits_types : (schema : List (List ℕ × CellType)) (row : List Cell) → T (row_fits schema row) → T (is_row (dtypes_of schema) row)
fits_types [] [] h = tt
fits_types [] (c ∷ row) h = absurd h
fits_types (s ∷ schema) [] h = absurd h
fits_types (s ∷ schema) (c ∷ row) h = T-both _ _ (T-first (fits_dtype s.1 c) _ h) (fits_types schema row (T-second (fits_dtype s.1 c) _ h))

new_row : (schema : List (List ℕ × CellType)) (row : Option (List Cell)) → T (new_row_fits schema row) → T (is_row_if_any (dtypes_of schema) row)
new_row schema None h = tt
new_row schema (Some row) h = fits_types schema row h

pub new_rows : (schema : List (List ℕ × CellType)) (entries : List Entry) → NewRowsFit schema entries → AreNewRows (dtypes_of schema) entries
new_rows schema [] h = tt
new_rows schema (e ∷ es) h = T-both _ _ (new_row schema e.new (T-first (new_row_fits schema e.new) _ h)) (new_rows schema es (T-second (new_row_fits schema e.new) _ h))

-- the rows after changes, as a map
pub changed_sorted : (rows out : List (Tag × List Cell)) (entries : List Entry) → T (finite.is_sorted tag_cmp rows) → out ≡ after_changes tag_cmp rows (map entry_change entries) → T (finite.is_sorted tag_cmp out)
changed_sorted rows out entries h e = applied_sorted rows out entries h e

pub changed_rows : (t : TableParts) (rows out : List (Tag × List Cell)) (entries : List Entry) → T (finite.is_sorted tag_cmp rows) → finite.from_sorted rows ≡ t.rows → AreRising entries
    → out ≡ after_changes tag_cmp rows (map entry_change entries) → finite.from_sorted {R = tag_cmp} out ≡ (after_entries t entries).rows
changed_rows t rows out entries h is rising e =
    applied_cells rows out entries (finite.from_sorted (map entry_change entries)) h (sym (finite.entries-from_sorted tag_cmp (map entry_change entries) rising)) e
    ∙ ap (λ m. applied m (finite.from_sorted (map entry_change entries))) is

-- the rows that changes make of no rows
pub made_rows : (rows : List (Tag × List Cell)) (m : TaggedRows) (entries : List Entry) → T (finite.is_sorted tag_cmp rows) → finite.from_sorted rows ≡ m → AreRising entries
    → m ≡ applied finite.empty (finite.from_sorted (map entry_change entries)) → rows ≡ after_changes tag_cmp [] (map entry_change entries)
made_rows rows m entries h is rising e =
    let cs = map entry_change entries in
    let out = after_changes tag_cmp [] cs in
    let none : TaggedRows = finite.from_sorted [] in
    let no_rows : none ≡ finite.empty = finite.empty_of_len none (finite.len-entries none ∙ ap length (finite.entries-from_sorted tag_cmp [] tt)) in
    sym (finite.entries-from_sorted tag_cmp rows h) ∙ ap finite.entries is
    ∙ ap finite.entries (e ∙ ap (λ t. applied t (finite.from_sorted cs)) (sym no_rows) ∙ sym (applied_cells [] out entries (finite.from_sorted cs) tt (sym (finite.entries-from_sorted tag_cmp cs rising)) refl))
    ∙ finite.entries-from_sorted tag_cmp out (applied_sorted [] out entries tt refl)

pub same_table : (t u : TableParts) → t.schema ≡ u.schema → t.rows ≡ u.rows → t ≡ u
same_table t u s r = λ i. record { schema = s i; rows = r i }
