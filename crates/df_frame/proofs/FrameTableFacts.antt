-- The table of a frame: its rows by their tags, and what a change makes of them.
use Rattle.std.proofs.Common.{◌≡◌, ℕ, ◌+◌, ◌-◌, ◌<◌, ◌≤◌, Bool, true, false, zero, suc, cond, List, [], ◌∷◌, get_or, map, length, refl, sym, ap, subst, ◌∙◌, arith}
use Rattle.std.specs.Prelude.{IsTrue, T, nat_lt, not, ◌&&◌, ◌||◌, ◌==◌, Option, None, Some, is_some, option_map, slice_get, unwrap_or}
use Rattle.std.specs.FinMap as finite
use Rattle.std.specs.List.{enumerate_from, list_all, list_any}
use Rattle.std.specs.Option.{IfNone, IfSome}
use Rattle.std.proofs.lemmas.Bool.{and_parts, ltb-true}
use Rattle.std.proofs.lemmas.List.{get_or-map, length-map}
use Rattle.df_value.specs.Chunks.{ChunkParts}
use Rattle.df_value.specs.Limits as limits
use Rattle.df_value.specs.Rows.{row_eq, row_fits, rows_fit}
use Rattle.df_value.specs.declared.cell.Cell.{Cell}
use Rattle.df_value.specs.declared.cell.CellType.{CellType}
use Rattle.df_column.specs.TagOrder.{tag_same, tag_total}
use Rattle.df_column.specs.Tables.{TaggedRows}
use Rattle.df_column.specs.Tags.{tag_cmp}
use Rattle.df_column.specs.declared.tag.Tag.{Tag}
use Rattle.df_delta.specs.Deltas.{RowsFit}
use Rattle.df_delta.specs.Differences.{IsDiff}
use Rattle.df_frame.specs.FrameParts.{frame_state}
use Rattle.df_frame.specs.FrameTables.{IsNumberedTable, IsTabled, at_tag, coming_row, numbered_row, numbered_rows, row_tag, set_rows, tagged_rows_of}
use Rattle.df_frame.specs.Frames.{has_row, is_numbered_row, is_row_at, numbers_of, rows_of, with_chunk, with_replaced_rows, without_rows, IsNumbered, empty_frame}
use Rattle.df_frame.specs.Numbers.{are_below, has_number, is_rising}
use Rattle.df_frame.specs.Refusals.{first_not_live, first_taken}
use Rattle.df_frame.specs.declared.state.FrameState.{FrameState}
use Rattle.df_frame.proofs.Counting.{has-numbers}
use Rattle.df_frame.proofs.DeltaFacts.{coming-diff, get-set_rows}
use Rattle.df_frame.proofs.FrameFacts.{chunk-free, enumerated-numbers, frame-made, numbered-with_replaced_rows, numbered-without_rows}
use Rattle.df_frame.proofs.Members.{find-none, has-filter}
use Rattle.df_frame.proofs.Rising.{all-filter, rising-block, rising-filter}
use Rattle.df_frame.proofs.RowLookups.{first_of, found, found-put, found-replaced, found-without, none-new, none-old}
use Rattle.df_frame.proofs.TagFacts.{is_tag, same-tag, tag-itself, tags-rise}

abbrev pub Rows : Type 0
Rows = List (ℕ × List Cell)

-- ---- the rows of a table behind their numbers

pub numbered-tagged : (rows : Rows) → map numbered_row (map at_tag rows) ≡ rows
numbered-tagged [] = refl
numbered-tagged (r ∷ rs) =
    let e : r.0 + 1 - 1 ≡ r.0 = omega arith in
    ap (λ n. (n, r.1) ∷ map numbered_row (map at_tag rs)) e ∙ ap (λ later. r ∷ later) (numbered-tagged rs)

pub rows-rise : (f : FrameState) → IsNumbered f → is_rising (numbers_of f) ≡ true
rows-rise f h = ap is_rising h.left ∙ rising-filter (λ n. not (has_number f.deleted n)) f.accepted h.rising

pub table-entries : (f : FrameState) → IsNumbered f → finite.entries (tagged_rows_of f) ≡ map at_tag f.rows
table-entries f h = finite.entries-from_sorted tag_cmp (map at_tag f.rows) (tags-rise f.rows (rows-rise f h))

pub numbered-table : (f : FrameState) → IsNumbered f → numbered_rows (tagged_rows_of f) ≡ f.rows
numbered-table f h = ap (map numbered_row) (table-entries f h) ∙ numbered-tagged f.rows

-- a table whose tags are those of its numbers is that of these numbers
pub table-is : (t : TaggedRows) → map at_tag (numbered_rows t) ≡ finite.entries t → finite.from_sorted (map at_tag (numbered_rows t)) ≡ t
table-is t e =
    finite.same_entries_map _ _ (finite.entries-from_sorted tag_cmp (map at_tag (numbered_rows t)) (subst (λ es. T (finite.is_sorted tag_cmp es)) (sym e) (finite.entries_sorted t)) ∙ e)

-- and each tag of a frame's table is that of its row's number
pub table-tags : (f : FrameState) → IsNumbered f → (t : TaggedRows) → t ≡ tagged_rows_of f → map at_tag (numbered_rows t) ≡ finite.entries t
table-tags f h t e = ap (λ u. map at_tag (numbered_rows u)) e ∙ (ap (map at_tag) (numbered-table f h) ∙ (sym (table-entries f h) ∙ ap finite.entries (sym e)))

-- a frame is made of its accepted numbers and its table
pub frame-tables :
    (f : FrameState) → IsNumbered f → (accepted : List ℕ) (t : TaggedRows) → accepted ≡ f.accepted → t ≡ tagged_rows_of f →
    frame_state accepted (numbered_rows t) ≡ f
frame-tables f h accepted t a e = frame-made f h accepted (numbered_rows t) a (ap numbered_rows e ∙ numbered-table f h)

-- what stands at a tag of a frame's table
pub table-at : (f : FrameState) → IsNumbered f → (q : Tag) → finite.get (tagged_rows_of f) q ≡ found q f.rows
table-at f h q = finite.get-from_sorted tag_cmp (map at_tag f.rows) q (tags-rise f.rows (rows-rise f h))

-- or of a table whose tags are those of its numbers
pub table-found : (t : TaggedRows) → map at_tag (numbered_rows t) ≡ finite.entries t → (q : Tag) → finite.get t q ≡ found q (numbered_rows t)
table-found t e q = finite.get-entries t q ∙ ap (finite.find tag_cmp q) (sym e)

some-cond : (b : Bool) (x : List Cell) (o : Option (List Cell)) → is_some (cond b (Some x) o) ≡ (b || is_some o)
some-cond true x o = refl
some-cond false x o = refl

-- there is one at a number's tag where there is a row of the number
pub table-has : (n : ℕ) (rows : Rows) → is_some (found (row_tag n) rows) ≡ list_any (λ r. r.0 == n) rows
table-has n [] = refl
table-has n (r ∷ rs) =
    some-cond (is_tag (row_tag n) r.0) r.1 (found (row_tag n) rs)
    ∙ (ap (λ b. b || is_some (found (row_tag n) rs)) (same-tag (row_tag n) r.0 n (tag-itself n))
    ∙ ap (λ b. (r.0 == n) || b) (table-has n rs))

-- a frame that is made of its accepted numbers and its table is counted, where its numbers are
pub frame-tabled :
    (f : FrameState) → IsNumbered f → (accepted : List ℕ) (t : TaggedRows) → accepted ≡ f.accepted → t ≡ tagged_rows_of f →
    (accepted_rows deleted_rows : ℕ) → accepted_rows ≡ length f.accepted → deleted_rows ≡ length f.deleted → IsTabled accepted t accepted_rows deleted_rows
frame-tabled f h accepted t a e accepted_rows deleted_rows n m = record {
  tags = table-tags f h t e;
  counts_accepted = n ∙ ap length (sym a);
  counts_deleted = m ∙ ap (λ (g : FrameState). length g.deleted) (sym (frame-tables f h accepted t a e));
}

-- what a search answers says whether one is there
pub find-there :
    (r : Option ℕ) (o : Option (List Cell)) (cells : ℕ → Tag × List Cell → List Cell) → IfSome r (λ i. (d : Tag × List Cell) → o ≡ Some (cells i d)) →
    IfNone r (o ≡ None) → is_some r ≡ is_some o
find-there None o cells h k = ap is_some (sym k)
find-there (Some i) o cells h k = ap is_some (sym (h (row_tag 0, [])))

-- ---- the rows at their places

pub table-length : (t : TaggedRows) → finite.len t ≡ length (numbered_rows t)
table-length t = finite.len-entries t ∙ sym (length-map (finite.entries t) numbered_row)

pub numbered-cells : (es : List (Tag × List Cell)) → map (λ (r : ℕ × List Cell). r.1) (map numbered_row es) ≡ map (λ e. e.1) es
numbered-cells [] = refl
numbered-cells (e ∷ es) = ap (λ rows. e.1 ∷ rows) (numbered-cells es)

-- the tag at a place is that of the number at it
pub tag-at-place :
    (t : TaggedRows) → map at_tag (numbered_rows t) ≡ finite.entries t → (place : ℕ) (d : Tag × List Cell) → place < length (numbered_rows t) →
    (get_or (finite.entries t) place d).0 ≡ row_tag (get_or (map (λ r. r.0) (numbered_rows t)) place 0)
tag-at-place t e place d within =
    let rows : Rows = numbered_rows t in
    let none : ℕ × List Cell = (0, []) in
    ap (λ (es : List (Tag × List Cell)). (get_or es place d).0) (sym e)
    ∙ (ap (λ (x : Tag × List Cell). x.0) (get_or-map at_tag rows place none d within) ∙ ap row_tag (sym (get_or-map (λ r. r.0) rows place none 0 within)))

-- so what is read of a place says its number
pub tag-read :
    (t : TaggedRows) → IsNumberedTable t → (place : ℕ) → place < length (numbered_rows t) →
    (q : Tag) → ((d : Tag × List Cell) → q ≡ (get_or (finite.entries t) place d).0) → q.first ≡ get_or (map (λ r. r.0) (numbered_rows t)) place 0 + 1
tag-read t h place within q read =
    let none : Tag × List Cell = (row_tag 0, []) in
    ap (λ (x : Tag). x.first) (read none ∙ tag-at-place t h.tags place none within)

all-at : (p : ℕ → Bool) (ns : List ℕ) (i : ℕ) → i < length ns → list_all p ns ≡ true → p (get_or ns i 0) ≡ true
all-at p [] i within h = absurd (omega (arith, within))
all-at p (n ∷ ns) zero within h = (and_parts (p n) (list_all p ns) h).0
all-at p (n ∷ ns) (suc i) within h = all-at p ns i (omega (arith, within)) (and_parts (p n) (list_all p ns) h).1

-- and this number is below 2^32
pub number-below : (t : TaggedRows) → IsNumberedTable t → (place : ℕ) → place < length (numbered_rows t) → get_or (map (λ r. r.0) (numbered_rows t)) place 0 < limits.row_numbers
number-below t h place within =
    let numbers : List ℕ = map (λ r. r.0) (numbered_rows t) in
    let long : length numbers ≡ length (numbered_rows t) = length-map (numbered_rows t) (λ r. r.0) in
    ltb-true (get_or numbers place 0) limits.row_numbers (all-at (λ n. nat_lt n limits.row_numbers) numbers place (omega (arith, long, within)) h.below)

-- the table of a sound frame has numbers
pub frame-numbered : (f : FrameState) → IsNumbered f → (t : TaggedRows) → map at_tag (numbered_rows t) ≡ finite.entries t → numbered_rows t ≡ f.rows → IsNumberedTable t
frame-numbered f h t tags is = record {
  tags = tags;
  below =
      ap (λ (rows : Rows). are_below limits.row_numbers (map (λ r. r.0) rows)) is
      ∙ (ap (are_below limits.row_numbers) h.left ∙ all-filter (λ n. nat_lt n limits.row_numbers) (λ n. not (has_number f.deleted n)) f.accepted h.below);
}

-- ---- the table of a frame that has accepted nothing

pub empty-table : ◌≡◌ {A = TaggedRows} finite.empty (tagged_rows_of empty_frame)
empty-table =
    sym (finite.empty_of_len (tagged_rows_of empty_frame) (finite.len-entries (tagged_rows_of empty_frame) ∙ ap length (finite.entries-from_sorted tag_cmp (map at_tag empty_frame.rows) tt)))

-- ---- the rows fit

fits-cond :
    (schema : List (List ℕ × CellType)) (b : Bool) (x : List Cell) (later : Option (List Cell)) → row_fits schema x ≡ true →
    IfSome later (λ row. IsTrue (row_fits schema row)) → IfSome (cond b (Some x) later) (λ row. IsTrue (row_fits schema row))
fits-cond schema true x later h k = h
fits-cond schema false x later h k = k

fits-at : (schema : List (List ℕ × CellType)) (q : Tag) (rows : Rows) → list_all (row_fits schema) (map (λ r. r.1) rows) ≡ true → IfSome (found q rows) (λ row. IsTrue (row_fits schema row))
fits-at schema q [] h = tt
fits-at schema q (r ∷ rs) h =
    let parts = and_parts (row_fits schema r.1) (list_all (row_fits schema) (map (λ r. r.1) rs)) h in
    fits-cond schema (is_tag q r.0) r.1 (found q rs) parts.0 (fits-at schema q rs parts.1)

pub table-fits : (schema : List (List ℕ × CellType)) (f : FrameState) → IsNumbered f → IsTrue (rows_fit schema (rows_of f)) → RowsFit schema (tagged_rows_of f)
table-fits schema f h fit =
    record { at = λ q. subst (λ o. IfSome o (λ row. IsTrue (row_fits schema row))) (sym (table-at f h q)) (fits-at schema q f.rows fit) }

-- ---- what a change makes of it

and-none : (a b : Bool) → b ≡ false → (a && b) ≡ false
and-none true b e = e
and-none false b e = refl

-- a number that was not accepted has no row
not-there : (f : FrameState) → IsNumbered f → (n : ℕ) → has_number f.accepted n ≡ false → has_number (numbers_of f) n ≡ false
not-there f h n out =
    ap (λ ns. has_number ns n) h.left
    ∙ (has-filter (λ n. not (has_number f.deleted n)) f.accepted n ∙ and-none (not (has_number f.deleted n)) (has_number f.accepted n) out)

pub appended-diff :
    (c : ChunkParts) (f : FrameState) → IsNumbered f → IsNumbered (with_chunk c f) → first_taken f c ≡ None →
    IsDiff (tagged_rows_of f) (tagged_rows_of (with_chunk c f)) (finite.from_sorted (map coming_row (enumerate_from c.first c.rows)))
appended-diff c f h k free =
    let block : Rows = enumerate_from c.first c.rows in
    let numbers = enumerated-numbers c.first c.rows in
    let none : (q : Tag) (y : List Cell) → found q block ≡ Some y → found q f.rows ≡ None =
    λ q. none-old q block f.rows (λ n m. not-there f h n (chunk-free c f free n (ap (λ ns. has_number ns n) (sym numbers) ∙ m))) in
    coming-diff block (tagged_rows_of f) (tagged_rows_of (with_chunk c f)) (ap is_rising numbers ∙ rising-block c.first (length c.rows))
    (λ q. table-at (with_chunk c f) k q ∙ (found-put q c.first block f.rows (none q) ∙ ap (first_of (found q block)) (sym (table-at f h q))))
    (λ q y e. table-at f h q ∙ none q y e)

pub rows-deleted :
    (ns : List ℕ) (f : FrameState) → IsNumbered f → set_rows (tagged_rows_of f) (map (λ n. (n, None)) ns) ≡ tagged_rows_of (without_rows ns f)
rows-deleted ns f h = finite.same_map tag_total tag_same _ _ (λ q.
    get-set_rows (tagged_rows_of f) (map (λ n. (n, None)) ns) q
    ∙ (ap (unwrap_or (found q (map (λ n. (n, None)) ns))) (table-at f h q)
    ∙ (sym (found-without q ns f.rows) ∙ sym (table-at (without_rows ns f) (numbered-without_rows ns f h) q))))

true-from-not : (b : Bool) → not b ≡ false → b ≡ true
true-from-not true e = refl
true-from-not false e = cc e

live-number :
    (f : FrameState) (ns : List ℕ) → first_not_live f ns ≡ None → (n : ℕ) → has_number ns n ≡ true → has_number (numbers_of f) n ≡ true
live-number f ns h n m = sym (has-numbers f.rows n) ∙ true-from-not (has_row f n) (find-none (λ n. not (has_row f n)) ns h n m)

pub rows-replaced :
    (rows : Rows) (f : FrameState) → IsNumbered f → first_not_live f (map (λ r. r.0) rows) ≡ None →
    set_rows (tagged_rows_of f) (map (λ r. (r.0, Some r.1)) rows) ≡ tagged_rows_of (with_replaced_rows rows f)
rows-replaced rows f h live = finite.same_map tag_total tag_same _ _ (λ q.
    get-set_rows (tagged_rows_of f) (map (λ r. (r.0, Some r.1)) rows) q
    ∙ (ap (unwrap_or (found q (map (λ r. (r.0, Some r.1)) rows))) (table-at f h q)
    ∙ (sym (found-replaced q rows f.rows (none-new q rows f.rows (live-number f (map (λ r. r.0) rows) live)))
    ∙ sym (table-at (with_replaced_rows rows f) (numbered-with_replaced_rows rows f h) q))))

-- ---- the test of a row

abbrev tested : ℕ → List Cell → Rows → ℕ → Bool
tested n row rows place = unwrap_or (option_map (is_numbered_row n row) (slice_get rows place)) false

pub tested-inside : (n : ℕ) (row : List Cell) (rows : Rows) (place : ℕ) (d : ℕ × List Cell) → place < length rows → tested n row rows place ≡ is_numbered_row n row (get_or rows place d)
tested-inside n row [] place d h = absurd (omega arith)
tested-inside n row (r ∷ rs) zero d h = refl
tested-inside n row (r ∷ rs) (suc place) d h = tested-inside n row rs place d (omega arith)

pub tested-past : (n : ℕ) (row : List Cell) (rows : Rows) (place : ℕ) → length rows ≤ place → tested n row rows place ≡ false
tested-past n row [] place h = refl
tested-past n row (r ∷ rs) zero h = absurd (omega arith)
tested-past n row (r ∷ rs) (suc place) h = tested-past n row rs place (omega arith)

-- the row that stands behind a number in a table
pub row-read : (t : TaggedRows) (rows : Rows) → numbered_rows t ≡ rows → (place : ℕ) (d : Tag × List Cell) → place < length rows → (get_or rows place (numbered_row d)).1 ≡ (get_or (finite.entries t) place d).1
row-read t rows e place d h =
    let long : place < length (finite.entries t) = omega (arith, h, ap length e, length-map (finite.entries t) numbered_row) in
    ap (λ l. (get_or l place (numbered_row d)).1) (sym e) ∙ ap (λ r. r.1) (get_or-map numbered_row (finite.entries t) place d (numbered_row d) long)

abbrev pub some_entry : Tag × List Cell
some_entry = (record { first = 0; second = 0; third = 0 }, [])

-- the test by a row's number and its cells
pub row-tested : (t : TaggedRows) (f : FrameState) → numbered_rows t ≡ f.rows → (place n m : ℕ) (row : List Cell) → place < length f.rows → m ≡ get_or (numbers_of f) place 0
    → is_row_at f place n row ≡ ((m == n) && row_eq (get_or (finite.entries t) place some_entry).1 row)
row-tested t f e place n m row h number =
    let r = numbered_row some_entry in
    tested-inside n row f.rows place r h
    ∙ ap (λ k. (k == n) && row_eq (get_or f.rows place r).1 row) (sym (number ∙ get_or-map (λ (r : ℕ × List Cell). r.0) f.rows place r 0 h))
    ∙ ap (λ cells. (m == n) && row_eq cells row) (row-read t f.rows e place some_entry h)
