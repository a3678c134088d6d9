-- The cells of rows are read back.
use Rattle.std.proofs.Common.{◌≡◌, ◌++◌, ◌∷◌, [], ◌∙◌, ◌+◌, ◌<◌, ◌≤◌, ℕ, ℤ, Bool, true, false, suc, List, Option, Some, None, refl, ap, sym, length, map, get_or, append_assoc, append-nil, flat_map, codes, decimal, unsigned_abs, arith}
use Rattle.std.specs.Prelude.{◌==◌, not, slice_get}
use Rattle.std.specs.Int.{is_negative}
use Rattle.std.specs.List.{enumerate_from, list_all, range_with_len}
use Rattle.std.proofs.lemmas.Bool.{ne_eqb}
use Rattle.std.proofs.lemmas.Fmt.{decimal_is_IsNumeral}
use Rattle.std.proofs.lemmas.Str.Parse.{digit_at}
use Rattle.df_value.specs.declared.cell.Cell.{Cell}
use Rattle.df_value.specs.declared.cell.Cell.TheVariants as cell
use Rattle.df_value.specs.Rows.{cell_at}
use Rattle.df_page.specs.declared.columns.Column.{Column}
use Rattle.df_page.specs.Bars.{bar_tag, bar_width, side}
use Rattle.df_page.specs.Cells.{cell_tags, cells_tags, null_tags, number_tags, plain_tag, row_tag, row_tags}
use Rattle.df_page.specs.Markup.{Tagged}
use Rattle.df_page.specs.Reading.{Shown, is_cell, is_cell_end, is_null_mark, is_row_end, rows_from, shown_cell, shown_row, shown_with}
use Rattle.df_page.specs.Sections.{placed_tags}
use Rattle.df_page.proofs.BarFacts.{width_most}
use Rattle.df_page.proofs.MarkFacts.{mark_closes_none, mark_is_other}
use Rattle.df_page.proofs.TagFacts.{all_both, closes_none, is_other, is_tag, two_true, was_not}

pub skip : (row : List Shown) (before tags : List Tagged) → list_all is_other before ≡ true → rows_from row None (before ++ tags) ≡ rows_from row None tags
unfolding rows_from
skip row [] tags h = refl
skip row (t ∷ before) tags h =
    let parts = two_true (is_other t) (list_all is_other before) h in
    let kinds = two_true (not (is_cell t.0)) (not (is_row_end t.0)) parts.0 in
    rw (was_not (is_cell t.0) kinds.0, was_not (is_row_end t.0) kinds.1) (skip row before tags parts.1)

pub begun : (row : List Shown) (t : Tagged) (tags : List Tagged) → is_cell t.0 ≡ true → rows_from row None (t ∷ tags) ≡ rows_from row (Some (Some t.1)) tags
unfolding rows_from
begun row t tags h = rw h refl

pub within : (row : List Shown) (shown : Shown) (t : Tagged) (tags : List Tagged) → is_cell_end t.0 ≡ false → rows_from row (Some shown) (t ∷ tags) ≡ rows_from row (Some (shown_with shown t)) tags
unfolding rows_from
within row shown t tags h = rw h refl

pub ended : (row : List Shown) (shown : Shown) (t : Tagged) (tags : List Tagged) → is_cell_end t.0 ≡ true → rows_from row (Some shown) (t ∷ tags) ≡ rows_from (row ++ shown ∷ []) None tags
unfolding rows_from
ended row shown t tags h = rw h refl

pub row_ended : (row : List Shown) (text : List ℕ) (tags : List Tagged) → rows_from row None ((codes "/tr", text) ∷ tags) ≡ row ∷ rows_from [] None tags
unfolding rows_from is_cell is_row_end
row_ended row text tags = refl

-- one text, and what is in marks behind it
pub plain_text : (row : List Shown) (tag text : List ℕ) (tags : List Tagged) → is_cell tag ≡ true →
    rows_from row None ((tag, text) ∷ (codes "/td", []) ∷ tags) ≡ rows_from (row ++ Some text ∷ []) None tags
unfolding is_cell_end
plain_text row tag text tags h = begun row (tag, text) ((codes "/td", []) ∷ tags) h ∙ ended row (Some text) (codes "/td", []) tags refl

-- a text in a tag of its own
pub marked_text : (row : List Shown) (tag first mark text off end : List ℕ) (tags : List Tagged) →
    is_cell tag ≡ true → is_cell_end mark ≡ false → is_null_mark mark ≡ false → is_cell_end off ≡ false → is_null_mark off ≡ false → is_cell_end end ≡ true →
    rows_from row None ((tag, first) ∷ (mark, text) ∷ (off, []) ∷ (end, []) ∷ tags) ≡ rows_from (row ++ Some (first ++ text) ∷ []) None tags
marked_text row tag first mark text off end tags h i j k l m =
    let inner : shown_with (Some first) (mark, text) ≡ Some (first ++ text) = rw j refl in
    let outer : shown_with (Some (first ++ text)) (off, []) ≡ Some (first ++ text) = rw l (ap Some (append-nil (first ++ text))) in
    begun row (tag, first) ((mark, text) ∷ (off, []) ∷ (end, []) ∷ tags) h
    ∙ (within row (Some first) (mark, text) ((off, []) ∷ (end, []) ∷ tags) i
    ∙ (ap (λ s. rows_from row (Some s) ((off, []) ∷ (end, []) ∷ tags)) inner
    ∙ (within row (Some (first ++ text)) (off, []) ((end, []) ∷ tags) k
    ∙ (ap (λ s. rows_from row (Some s) ((end, []) ∷ tags)) outer ∙ ended row (Some (first ++ text)) (end, []) tags m))))

null_back : (row : List Shown) (tag : List ℕ) (tags : List Tagged) → is_cell tag ≡ true →
    rows_from row None ((tag, []) ∷ (codes "span class=\"null\"", codes "null") ∷ (codes "/span", []) ∷ (codes "/td", []) ∷ tags) ≡ rows_from (row ++ None ∷ []) None tags
unfolding is_cell_end is_null_mark
null_back row tag tags h =
    begun row (tag, []) ((codes "span class=\"null\"", codes "null") ∷ (codes "/span", []) ∷ (codes "/td", []) ∷ tags) h
    ∙ (within row (Some []) (codes "span class=\"null\"", codes "null") ((codes "/span", []) ∷ (codes "/td", []) ∷ tags) refl
    ∙ (within row None (codes "/span", []) ((codes "/td", []) ∷ tags) refl ∙ ended row None (codes "/td", []) tags refl))

plain_is_cell : (number : Bool) → is_cell (plain_tag number) ≡ true
unfolding is_cell
plain_is_cell true = refl
plain_is_cell false = refl

bar_is_cell : (column : Column) (n : ℤ) → is_cell (bar_tag column n) ≡ true
unfolding is_cell
bar_is_cell column n = refl

-- a cell
cell_back : (row : List Shown) (column : Column) (v : Cell) (tags : List Tagged) → rows_from row None (cell_tags column v ++ tags) ≡ rows_from (row ++ shown_cell v ∷ []) None tags
unfolding is_cell is_cell_end is_null_mark
cell_back row column cell.Null tags = null_back row (plain_tag column.is_number) tags (plain_is_cell column.is_number)
cell_back row column (cell.Int n) tags = plain_text row (bar_tag column n) _ tags (bar_is_cell column n)
cell_back row column (cell.Wide n) tags = plain_text row (bar_tag column n) _ tags (bar_is_cell column n)
cell_back row column (cell.Text t) tags = marked_text row (codes "td") [] (codes "bdi") t (codes "/bdi") (codes "/td") tags refl refl refl refl refl refl
cell_back row column (cell.Bool true) tags = plain_text row (codes "td") _ tags refl
cell_back row column (cell.Bool false) tags = plain_text row (codes "td") _ tags refl
cell_back row column (cell.Frac f) tags = marked_text row (codes "td class=\"mean\"") _ (codes "span class=\"decimal\"") _ (codes "/span") (codes "/td") tags refl refl refl refl refl refl

-- the cells of a row in some columns
cells_back : (row : List Shown) (v : List Cell) (places : List (ℕ × Column)) (tags : List Tagged) →
    rows_from row None (flat_map (λ c. cell_tags c.1 (cell_at (Some c.0) v)) places ++ tags) ≡ rows_from (row ++ map (λ c. shown_cell (cell_at (Some c.0) v)) places) None tags
cells_back row v [] tags = ap (λ r. rows_from r None tags) (sym (append-nil row))
cells_back row v (c ∷ places) tags =
    let first = cell_tags c.1 (cell_at (Some c.0) v) in
    let rest = flat_map (λ c. cell_tags c.1 (cell_at (Some c.0) v)) places in
    let shown = shown_cell (cell_at (Some c.0) v) in
    ap (rows_from row None) (append_assoc first rest tags)
    ∙ (cell_back row c.1 (cell_at (Some c.0) v) (rest ++ tags)
    ∙ (cells_back (row ++ shown ∷ []) v places tags
    ∙ ap (λ r. rows_from r None tags) (append_assoc row (shown ∷ []) (map (λ c. shown_cell (cell_at (Some c.0) v)) places))))

-- what depends on places alone
by_place : {X Y : Type 0} (f : ℕ → Y) (n : ℕ) (xs : List X) → map (λ c. f c.0) (enumerate_from n xs) ≡ map f (range_with_len n (length xs))
by_place f n [] = refl
by_place f n (x ∷ xs) = ap (λ l. f n ∷ l) (by_place f (n + 1) xs)

row_back : (columns : List Column) (before : Option (Option (List Cell))) (v : List Cell) (tags : List Tagged) →
    rows_from [] None (row_tags columns before v ++ tags) ≡ shown_row (length columns) v ∷ rows_from [] None tags
row_back columns before v tags =
    let cells = cells_tags columns v in
    let first : list_all is_other ((row_tag before v, []) ∷ []) ≡ true = rw (mark_is_other before v) refl in
    skip [] ((row_tag before v, []) ∷ []) ((cells ++ ((codes "/tr", codes "\n") ∷ [])) ++ tags) first
    ∙ (ap (rows_from [] None) (append_assoc cells ((codes "/tr", codes "\n") ∷ []) tags)
    ∙ (cells_back [] v (enumerate_from 0 columns) ((codes "/tr", codes "\n") ∷ tags)
    ∙ (row_ended (map (λ c. shown_cell (cell_at (Some c.0) v)) (enumerate_from 0 columns)) (codes "\n") tags
    ∙ ap (λ r. r ∷ rows_from [] None tags) (by_place (λ at. shown_cell (cell_at (Some at) v)) 0 columns))))

-- the rows from an index on
pub each_row_back : (columns : List Column) (before : List (Option (List Cell))) (n : ℕ) (rows : List (List Cell)) (tags : List Tagged) →
    rows_from [] None (flat_map (placed_tags columns before) (enumerate_from n rows) ++ tags) ≡ map (shown_row (length columns)) rows ++ rows_from [] None tags
each_row_back columns before n [] tags = refl
each_row_back columns before n (v ∷ rows) tags =
    let rest = flat_map (placed_tags columns before) (enumerate_from (n + 1) rows) in
    ap (rows_from [] None) (append_assoc (placed_tags columns before (n, v)) rest tags)
    ∙ (row_back columns (slice_get before n) v (rest ++ tags) ∙ ap (λ l. shown_row (length columns) v ∷ l) (each_row_back columns before (n + 1) rows tags))

digits_close_none : (ds : List ℕ) → ((i : ℕ) → i < length ds → (48 ≤ get_or ds i 0) × (get_or ds i 0 ≤ 57)) → closes_none ds ≡ true
digits_close_none [] h = refl
digits_close_none (d ∷ ds) h =
    let first = h 0 (omega arith) in
    rw (ne_eqb d 62 (λ e. omega arith)) (digits_close_none ds (λ i l. h (suc i) (omega arith)))

width_closes_none : (size greatest : ℕ) → closes_none (decimal (bar_width size greatest)) ≡ true
width_closes_none size greatest =
    let few = width_most size greatest in
    digits_close_none _ (λ i l. digit_at _ i (decimal_is_IsNumeral (bar_width size greatest) (omega arith)).0.1 l)

side_closes_none : (signed negative : Bool) → closes_none (side signed negative) ≡ true
side_closes_none false negative = refl
side_closes_none true true = refl
side_closes_none true false = refl

bar_closes_none : (column : Column) (n : ℤ) → closes_none (bar_tag column n) ≡ true
bar_closes_none column n =
    let width = decimal (bar_width (unsigned_abs n) column.greatest) in
    let test = λ (b : ℕ). not (b == 62) in
    all_both test (codes "td class=\"") (side column.has_negative (is_negative n) ++ (codes "\" style=\"--w:" ++ (width ++ codes "\""))) refl
    (all_both test (side column.has_negative (is_negative n)) (codes "\" style=\"--w:" ++ (width ++ codes "\"")) (side_closes_none column.has_negative (is_negative n))
    (all_both test (codes "\" style=\"--w:") (width ++ codes "\"") refl
    (all_both test width (codes "\"") (width_closes_none (unsigned_abs n) column.greatest) refl)))

null_are_tags : (number : Bool) → list_all is_tag (null_tags number) ≡ true
null_are_tags true = refl
null_are_tags false = refl

number_are_tags : (column : Column) (n : ℤ) → list_all is_tag (number_tags column n) ≡ true
number_are_tags column n = rw (bar_closes_none column n) refl

cell_are_tags : (column : Column) (v : Cell) → list_all is_tag (cell_tags column v) ≡ true
cell_are_tags column cell.Null = null_are_tags column.is_number
cell_are_tags column (cell.Int n) = number_are_tags column n
cell_are_tags column (cell.Wide n) = number_are_tags column n
cell_are_tags column (cell.Text t) = refl
cell_are_tags column (cell.Bool true) = refl
cell_are_tags column (cell.Bool false) = refl
cell_are_tags column (cell.Frac f) = refl

pub each_are_tags : {X : Type 0} (f : X → List Tagged) → ((x : X) → list_all is_tag (f x) ≡ true) → (xs : List X) → list_all is_tag (flat_map f xs) ≡ true
each_are_tags f h [] = refl
each_are_tags f h (x ∷ xs) = all_both is_tag (f x) (flat_map f xs) (h x) (each_are_tags f h xs)

pub row_are_tags : (columns : List Column) (before : Option (Option (List Cell))) (v : List Cell) → list_all is_tag (row_tags columns before v) ≡ true
row_are_tags columns before v =
    rw (mark_closes_none before v) (all_both is_tag (cells_tags columns v) ((codes "/tr", codes "\n") ∷ [])
    (each_are_tags (λ c. cell_tags c.1 (cell_at (Some c.0) v)) (λ c. cell_are_tags c.1 (cell_at (Some c.0) v)) (enumerate_from 0 columns)) refl)
