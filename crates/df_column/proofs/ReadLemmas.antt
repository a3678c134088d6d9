-- Reading the rows of a table, and rows that are all new.
use Rattle.std.proofs.Common.{◌≡◌, ℕ, ◌+◌, ◌<◌, ◌≤◌, true, List, [], ◌∷◌, ◌++◌, Some, None, length, map, drop, get_or, refl, sym, ap, subst, ◌∙◌, arith, append_assoc, append-nil}
use Rattle.std.specs.Prelude.{T}
use Rattle.std.specs.List.{list_all}
use Rattle.std.specs.FinMap as finite
use Rattle.std.specs.Borrow.{Bor}
use Rattle.df_value.specs.Rows.{row_fits, rows_fit}
use Rattle.df_value.specs.declared.cell.Cell.{Cell}
use Rattle.df_value.specs.declared.cell.CellType.{CellType}
use Rattle.df_column.specs.Blocks.{BlockParts, block_rows}
use Rattle.df_column.specs.Columns.{column_cells}
use Rattle.df_column.specs.Picks.{AreWithin, is_within}
use Rattle.df_column.specs.Places.{IsGap, IsPlace}
use Rattle.df_column.specs.Rows.{AreRows, is_new_row, origin_row, picked_rows, row_at}
use Rattle.df_column.specs.Tables.{TableParts, TaggedRows, dtypes_of}
use Rattle.df_column.specs.Tags.{tag_cmp}
use Rattle.df_column.specs.declared.picks.Origin.TheVariants.{New}
use Rattle.df_column.specs.declared.picks.Pick.{Pick}
use Rattle.df_column.specs.declared.tag.Tag.{Tag}
use Rattle.df_column.proofs.Bools.{T-first, T-second, true_from_T}
use Rattle.df_column.proofs.MergeLemmas.{all_last, drop_at, drop_past}
use Rattle.df_column.proofs.Places.{find-gap, find-place}
use Rattle.df_column.proofs.RowLemmas.{length_rows, row_in_rows}
use Rattle.df_column.proofs.TableLemmas.{fits_types}
use Rattle.df_column.specs.TagOrder.{tag_total, tag_same}

-- the rows of a table are the entries of its map
pub entries_are : (rows es : List (Tag × List Cell)) (m : TaggedRows) → es ≡ rows → T (finite.is_sorted tag_cmp rows) → finite.from_sorted rows ≡ m → es ≡ finite.entries m
entries_are rows es m e h is = e ∙ sym (finite.entries-from_sorted tag_cmp rows h) ∙ ap finite.entries is

-- what stands at a tag
pub row_found : (m : TaggedRows) (tag : Tag) (i : ℕ) → IsPlace tag_cmp (finite.entries m) tag i → (d : Tag × List Cell) → finite.get m tag ≡ Some (get_or (finite.entries m) i d).1
row_found m tag i p d = finite.get-entries m tag ∙ find-place tag_total tag_same (finite.entries m) tag i d (finite.entries_sorted m) p

pub row_absent : (m : TaggedRows) (tag : Tag) (i : ℕ) → IsGap tag_cmp (finite.entries m) tag i → finite.get m tag ≡ None
row_absent m tag i g = finite.get-entries m tag ∙ find-gap tag_total tag_same (finite.entries m) tag i g

-- the rows of a block, one by one
pub block_row_step : (b : BlockParts) (out before : List (List Cell)) (at : ℕ) (row : List Cell) → at < length b.tags → row ≡ row_at (map column_cells b.columns) at
    → out ++ map (λ r. r.1) (drop at (block_rows b)) ≡ before → (out ++ row ∷ []) ++ map (λ r. r.1) (drop (at + 1) (block_rows b)) ≡ before
block_row_step b out before at row lt e h =
    let none : Tag = record { first = 0; second = 0; third = 0 } in
    let d : Tag × List Cell = (none, []) in
    let l = length_rows b.tags (map column_cells b.columns) in
    let cut = drop_at (block_rows b) at d (omega (arith, l, lt)) in
    let here = ap (λ r. r.1) (row_in_rows b.tags (map column_cells b.columns) at d none lt) in
    append_assoc out (row ∷ []) (map (λ r. r.1) (drop (at + 1) (block_rows b)))
    ∙ ap (λ r. out ++ r ∷ map (λ r. r.1) (drop (at + 1) (block_rows b))) (e ∙ sym here)
    ∙ ap (λ rs. out ++ map (λ r. r.1) rs) (sym cut) ∙ h

pub block_rows_end : (b : BlockParts) (out before : List (List Cell)) (at : ℕ) → length b.tags ≤ at → out ++ map (λ r. r.1) (drop at (block_rows b)) ≡ before → out ≡ before
block_rows_end b out before at le h =
    let l = length_rows b.tags (map column_cells b.columns) in
    sym (append-nil out) ∙ ap (λ rs. out ++ map (λ r. r.1) rs) (sym (drop_past (block_rows b) at (omega (arith, l, le)))) ∙ h

pub tagged_row_step : (b : BlockParts) (out before : List (Tag × List Cell)) (at : ℕ) (row : List Cell) (none : Tag) → at < length b.tags → row ≡ row_at (map column_cells b.columns) at
    → out ++ drop at (block_rows b) ≡ before → (out ++ (get_or b.tags at none, row) ∷ []) ++ drop (at + 1) (block_rows b) ≡ before
tagged_row_step b out before at row none lt e h =
    let d : Tag × List Cell = (none, []) in
    let l = length_rows b.tags (map column_cells b.columns) in
    let cut = drop_at (block_rows b) at d (omega (arith, l, lt)) in
    let here = row_in_rows b.tags (map column_cells b.columns) at d none lt in
    append_assoc out ((get_or b.tags at none, row) ∷ []) (drop (at + 1) (block_rows b))
    ∙ ap (λ r. out ++ r ∷ drop (at + 1) (block_rows b)) (ap (λ r. (get_or b.tags at none, r)) e ∙ sym here)
    ∙ ap (λ rs. out ++ rs) (sym cut) ∙ h

pub tagged_rows_end : (b : BlockParts) (out before : List (Tag × List Cell)) (at : ℕ) → length b.tags ≤ at → out ++ drop at (block_rows b) ≡ before → out ≡ before
tagged_rows_end b out before at le h =
    let l = length_rows b.tags (map column_cells b.columns) in
    sym (append-nil out) ∙ ap (λ rs. out ++ rs) (sym (drop_past (block_rows b) at (omega (arith, l, le)))) ∙ h

-- one new row more
map_last : {X Y : Type 0} (f : X → Y) (xs : List X) (x : X) → map f (xs ++ x ∷ []) ≡ map f xs ++ f x ∷ []
map_last f [] x = refl
map_last f (y ∷ xs) x = ap (λ r. f y ∷ r) (map_last f xs x)

pub new_row_step : (columns : List (List Cell)) (rows : List (Tag × List Cell)) (picks : List Pick) (i : ℕ) (p : Pick) (item : Tag × List Cell) (row : Bor (List Cell)) → i < length rows → item ≡ get_or rows i item → p.tag ≡ item.0 → p.origin ≡ New row → row.now ≡ item.1
    → picked_rows columns picks ++ drop i rows ≡ rows → picked_rows columns (picks ++ p ∷ []) ++ drop (i + 1) rows ≡ rows
new_row_step columns rows picks i p item row lt e tag is now h =
    let made : (p.tag, origin_row columns p.origin) ≡ item = λ k. (tag k, (ap (origin_row columns) is ∙ now) k) in
    ap (λ r. r ++ drop (i + 1) rows) (map_last (λ p. (p.tag, origin_row columns p.origin)) picks p)
    ∙ append_assoc (picked_rows columns picks) ((p.tag, origin_row columns p.origin) ∷ []) (drop (i + 1) rows)
    ∙ ap (λ r. picked_rows columns picks ++ r ∷ drop (i + 1) rows) (made ∙ e)
    ∙ ap (λ r. picked_rows columns picks ++ r) (sym (drop_at rows i item lt)) ∙ h

pub new_within : (picks made : List Pick) (p : Pick) (row : Bor (List Cell)) → made ≡ picks ++ p ∷ [] → p.origin ≡ New row → AreWithin 0 picks → AreWithin 0 made
new_within picks made p row e is h = subst (AreWithin 0) (sym e) (all_last (λ p. is_within 0 p.origin) picks p h (subst (λ o. T (is_within 0 o)) (sym is) tt))

pub new_fit : (schema : List (List ℕ × CellType)) (rows : List (Tag × List Cell)) (picks made : List Pick) (i : ℕ) (p : Pick) (item : Tag × List Cell) (row : Bor (List Cell)) → made ≡ picks ++ p ∷ [] → i < length rows → item ≡ get_or rows i item → p.origin ≡ New row → row.now ≡ item.1
    → T (list_all (λ r. row_fits schema r.1) (drop i rows)) → AreRows (dtypes_of schema) picks
    → record { fits : AreRows (dtypes_of schema) made; left : T (list_all (λ r. row_fits schema r.1) (drop (i + 1) rows)) }
new_fit schema rows picks made i p item row made_is lt e is now left h =
    let cut : T (list_all (λ r. row_fits schema r.1) (item ∷ drop (i + 1) rows)) = subst (λ rs. T (list_all (λ r. row_fits schema r.1) rs)) (drop_at rows i item lt ∙ ap (λ r. r ∷ drop (i + 1) rows) (sym e)) left in
    let own : T (row_fits schema row.now) = subst (λ r. T (row_fits schema r)) (sym now) (T-first (row_fits schema item.1) _ cut) in
    record {
      fits = subst (AreRows (dtypes_of schema)) (sym made_is) (all_last (λ p. is_new_row (dtypes_of schema) p.origin) picks p h (subst (λ o. T (is_new_row (dtypes_of schema) o)) (sym is) (fits_types schema row.now own)));
      left = T-second (row_fits schema item.1) _ cut;
    }

-- the rows of a table whose blocks' rows fit
pub fitting_rows : (t : TableParts) (schema : List (List ℕ × CellType)) (rows : List (Tag × List Cell)) → record { schema = schema; rows = finite.from_sorted rows } ≡ t → T (finite.is_sorted tag_cmp rows) → T (list_all (row_fits schema) (map (λ r. r.1) rows))
    → rows_fit t.schema (finite.values t.rows) ≡ true
fitting_rows t schema rows is h fit =
    let s : schema ≡ t.schema = ap (λ t. t.schema) is in
    let e : rows ≡ finite.entries t.rows = sym (finite.entries-from_sorted tag_cmp rows h) ∙ ap (λ t. finite.entries t.rows) is in
    true_from_T _ (subst (λ s. T (list_all (row_fits s) (finite.values t.rows))) s (subst (λ es. T (list_all (row_fits schema) (map (λ r. r.1) es))) e fit))
