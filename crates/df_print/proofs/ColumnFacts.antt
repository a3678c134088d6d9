-- The widths of columns, one row and one column at a time, and that no text of a column is wider than it.
use Rattle.std.proofs.Common.{◌≡◌, ◌+◌, ◌<◌, ◌≤◌, ℕ, zero, suc, List, [], ◌∷◌, ◌++◌, length, get_or, take, map, max, refl, arith, All, fold, Bool, IsUtf8, ap, subst, ◌∙◌}
use Rattle.std.specs.List.{enumerate_from}
use Rattle.std.proofs.lemmas.List.{get_or_default, take_more, take_all, map-append, length-map}
use Rattle.std.proofs.lemmas.List.Elements.{All-cons, All-map}
use Rattle.std.proofs.lemmas.List.Sums.{fold-append}
use Rattle.std.proofs.lemmas.List.FromFn.{length-enumerate_from, get_or-enumerate_from}
use Rattle.std.proofs.Math.ListN.{get_or-map}
use Rattle.df_value.specs.declared.cell.Cell.{Cell}
use Rattle.df_value.specs.declared.cell.CellType.{CellType}
use Rattle.df_print.specs.Printed.{IsWidthAt, cell_or_null, cell_text, column_texts, column_width, column_widths, escaped_text, padded, width_of}
use Rattle.df_print.proofs.SpaceFacts.{width-padded}

pub width_turn : (at : ℕ) (name : List ℕ) (rows : List (List Cell)) (i : ℕ) (d : List Cell) (old new : ℕ) → i < length rows → old ≡ column_width at name (take i rows)
    → new ≡ max old (width_of (cell_text (cell_or_null at (get_or rows i d)))) → new ≡ column_width at name (take (i + 1) rows)
width_turn at name rows i d old new h inv e = rw (e, inv, take_more rows i d h) (simp (map-append, fold-append))

fold_above : (a : ℕ) (xs : List ℕ) → a ≤ fold max a xs
fold_above a [] = omega arith
fold_above a (x ∷ xs) = omega (arith, fold_above (max a x) xs)

each_below : (a : ℕ) (xs : List ℕ) (k d : ℕ) → k < length xs → get_or xs k d ≤ fold max a xs
each_below a [] k d h = absurd (omega arith)
each_below a (x ∷ xs) zero d h = omega (arith, fold_above (max a x) xs)
each_below a (x ∷ xs) (suc k) d h = each_below (max a x) xs k d (omega arith)

-- the greatest width of some texts is not below the width of any of them
pub texts_below : (ts : List (List ℕ)) (k : ℕ) (d : List ℕ) → k < length ts → width_of (get_or ts k d) ≤ fold max 0 (map width_of ts)
texts_below ts k d h =
    let l = length-map ts (λ (t : List ℕ). width_of t) in
    rw (← get_or-map (λ (t : List ℕ). width_of t) ts k d) (each_below 0 (map width_of ts) k (width_of d) (omega (arith, l)))

-- so each of them, filled up to the greatest width, takes that width
pub filled_all : (ts : List (List ℕ)) (w : ℕ) → All IsUtf8 ts → w ≡ fold max 0 (map width_of ts) → All (λ t. (left : Bool) → width_of (padded left w t) ≡ w) ts
filled_all ts w utf8 e = λ k d h left.
    let b = texts_below ts k d h in
    width-padded left w (get_or ts k d) (utf8 k d h) (omega (arith, b, e))

-- the texts of a column are UTF-8 where its name and its cells are
pub column_utf8 : (at : ℕ) (name : List ℕ) (rows : List (List Cell)) → IsUtf8 (escaped_text name) → All (λ row. IsUtf8 (cell_text (cell_or_null at row))) rows → All IsUtf8 (column_texts at name rows)
column_utf8 at name rows h all =
    All-cons IsUtf8 (escaped_text name) (map (λ row. cell_text (cell_or_null at row)) rows) h (All-map IsUtf8 (λ (row : List Cell). cell_text (cell_or_null at row)) rows all)

-- the columns with their places, one more
places_more : {X : Type 0} (f : ℕ × (List ℕ × CellType) → X) (columns : List (List ℕ × CellType)) (i : ℕ) (d : List ℕ × CellType) → i < length columns
    → map f (take (i + 1) (enumerate_from 0 columns)) ≡ map f (take i (enumerate_from 0 columns)) ++ f (i, get_or columns i d) ∷ []
places_more f columns i d h =
    let n : i < length (enumerate_from 0 columns) = omega (arith, length-enumerate_from 0 columns) in
    let z : 0 + i ≡ i = omega arith in
    rw (take_more (enumerate_from 0 columns) i (0, d) n, get_or-enumerate_from 0 columns i (0, d) h, z, map-append) refl

pub widths_turn : (columns : List (List ℕ × CellType)) (rows : List (List Cell)) (i : ℕ) (d : List ℕ × CellType) (w : ℕ) (old new : List ℕ) → i < length columns
    → old ≡ map (λ c. column_width c.0 c.1.0 rows) (take i (enumerate_from 0 columns)) → w ≡ column_width i (get_or columns i d).0 rows → new ≡ old ++ w ∷ []
    → new ≡ map (λ c. column_width c.0 c.1.0 rows) (take (i + 1) (enumerate_from 0 columns))
widths_turn columns rows i d w old new h inv e n =
    rw (n, inv, e, places_more (λ (c : ℕ × (List ℕ × CellType)). column_width c.0 c.1.0 rows) columns i d h) refl

pub widths_end : (columns : List (List ℕ × CellType)) (rows : List (List Cell)) (i : ℕ) (new : List ℕ) → length columns ≤ i
    → new ≡ map (λ c. column_width c.0 c.1.0 rows) (take i (enumerate_from 0 columns)) → new ≡ column_widths columns rows
widths_end columns rows i new h inv =
    let n = take_all i (enumerate_from 0 columns) (omega (arith, length-enumerate_from 0 columns)) in
    rw n at inv

-- the width of the column at an index, whichever column would stand where there is none
pub width_at : (columns : List (List ℕ × CellType)) (rows : List (List Cell)) (at w : ℕ) (c : List ℕ × CellType) → at < length columns
    → w ≡ column_width at (get_or columns at c).0 rows → All IsUtf8 (column_texts at (get_or columns at c).0 rows) → IsWidthAt columns rows at w
width_at columns rows at w c h e utf8 = λ d. let there = get_or_default columns at c d h in
    (e ∙ ap (λ (x : List ℕ × CellType). column_width at x.0 rows) there, subst (λ (x : List ℕ × CellType). All IsUtf8 (column_texts at x.0 rows)) there utf8)
