-- A line, one text at a time.
use Rattle.std.proofs.Common.{◌≡◌, ◌+◌, ◌<◌, ◌≤◌, ℕ, zero, suc, nat_eq, false, List, [], ◌∷◌, ◌++◌, length, get_or, take, flat_map, codes, refl, ap, arith, append_assoc, append-nil}
use Rattle.std.specs.List.{join_by}
use Rattle.std.proofs.lemmas.Bool.Decides.{nat_tests}
use Rattle.std.proofs.lemmas.List.{get_or-map, take_more, take_all, length-map, length-take-le}
use Rattle.std.proofs.lemmas.Grind.{flat_map-append}
use Rattle.std.proofs.lemmas.List.FromFn.{get_or-map-range_with_len, length-map-range_with_len}
use Rattle.df_value.specs.declared.cell.Cell.{Cell}
use Rattle.df_value.specs.declared.cell.CellType.{CellType}
use Rattle.df_print.specs.Printed.{cell_or_null, cell_text, escaped_text, gap, header_texts, is_left, padded, padded_texts, printed_line, row_texts}

abbrev joined : List (List ℕ) → List ℕ
joined ts = join_by (λ t. t) (codes "  ") ts

join_push : (ts : List (List ℕ)) (t : List ℕ) → joined (ts ++ t ∷ []) ≡ joined ts ++ (gap (nat_eq (length ts) 0) ++ t)
join_push [] t = append-nil t
join_push (s ∷ ts) t =
    let e : flat_map (λ y. codes "  " ++ y) (ts ++ t ∷ []) ≡ flat_map (λ y. codes "  " ++ y) ts ++ (codes "  " ++ t) = rw flat_map-append (ap (λ r. flat_map (λ y. codes "  " ++ y) ts ++ (codes "  " ++ r)) (append-nil t)) in
    let z : nat_eq (suc (length ts)) 0 ≡ false = grind (arith, nat_tests) in
    rw (z, e, append_assoc) refl

length-padded_texts : (cs : List (List ℕ × CellType)) (ws : List ℕ) (ts : List (List ℕ)) → length ws ≡ length cs → length ts ≡ length cs → length (padded_texts cs ws ts) ≡ length cs
unfolding padded_texts
length-padded_texts [] ws ts e f = refl
length-padded_texts (c ∷ cs) [] ts e f = absurd (omega arith)
length-padded_texts (c ∷ cs) (w ∷ ws) [] e f = absurd (omega arith)
length-padded_texts (c ∷ cs) (w ∷ ws) (t ∷ ts) e f = ap suc (length-padded_texts cs ws ts (omega arith) (omega arith))

get_or-padded_texts : (cs : List (List ℕ × CellType)) (ws : List ℕ) (ts : List (List ℕ)) (i : ℕ) (c : List ℕ × CellType) (w : ℕ) (t d : List ℕ) → length ws ≡ length cs → length ts ≡ length cs → i < length cs
    → get_or (padded_texts cs ws ts) i d ≡ padded (is_left (get_or cs i c).1) (get_or ws i w) (get_or ts i t)
unfolding padded_texts
get_or-padded_texts [] ws ts i c w t d e f h = absurd (omega arith)
get_or-padded_texts (c' ∷ cs) [] ts i c w t d e f h = absurd (omega arith)
get_or-padded_texts (c' ∷ cs) (w' ∷ ws) [] i c w t d e f h = absurd (omega arith)
get_or-padded_texts (c' ∷ cs) (w' ∷ ws) (t' ∷ ts) zero c w t d e f h = refl
get_or-padded_texts (c' ∷ cs) (w' ∷ ws) (t' ∷ ts) (suc i) c w t d e f h = get_or-padded_texts cs ws ts i c w t d (omega arith) (omega arith) (omega arith)

-- the text at a place of a line, behind its gap
pub line_turn : (cs : List (List ℕ × CellType)) (ws : List ℕ) (ts : List (List ℕ)) (i : ℕ) (c : List ℕ × CellType) (s init out new : List ℕ)
    → length ws ≡ length cs → length ts ≡ length cs → i < length cs → s ≡ get_or ts i s
    → out ≡ init ++ join_by (λ t. t) (codes "  ") (take i (padded_texts cs ws ts))
    → new ≡ out ++ (gap (nat_eq i 0) ++ padded (is_left (get_or cs i c).1) (get_or ws i 0) s)
    → new ≡ init ++ join_by (λ t. t) (codes "  ") (take (i + 1) (padded_texts cs ws ts))
line_turn cs ws ts i c s init out new e f h of_s inv n =
    let texts = padded_texts cs ws ts in
    let l : length texts ≡ length cs = length-padded_texts cs ws ts e f in
    let k : length (take i texts) ≡ i = length-take-le i texts (omega arith) in
    let more : take (i + 1) texts ≡ take i texts ++ get_or texts i [] ∷ [] = take_more texts i [] (omega arith) in
    let at : get_or texts i [] ≡ padded (is_left (get_or cs i c).1) (get_or ws i 0) (get_or ts i s) = get_or-padded_texts cs ws ts i c 0 s [] e f h in
    rw (n, inv, more, at, ← of_s, join_push, k, append_assoc) refl

pub line_end : (cs : List (List ℕ × CellType)) (ws : List ℕ) (ts : List (List ℕ)) (i : ℕ) (init out new : List ℕ)
    → length ws ≡ length cs → length ts ≡ length cs → length cs ≤ i
    → out ≡ init ++ join_by (λ t. t) (codes "  ") (take i (padded_texts cs ws ts))
    → new ≡ out ++ codes "\n" → new ≡ init ++ printed_line cs ws ts
unfolding printed_line
line_end cs ws ts i init out new e f h inv n =
    let l : length (padded_texts cs ws ts) ≡ length cs = length-padded_texts cs ws ts e f in
    let all = take_all i (padded_texts cs ws ts) (omega arith) in
    rw (n, inv, all, append_assoc) refl

-- the texts of a row: as many as columns, each that of the cell at its place
pub length-row_texts : (n : ℕ) (row : List Cell) → length (row_texts n row) ≡ n
length-row_texts n row = length-map-range_with_len (λ (at : ℕ). cell_text (cell_or_null at row)) 0 n

pub row_text_at : (n i : ℕ) (row : List Cell) (d : List ℕ) → i < n → get_or (row_texts n row) i d ≡ cell_text (cell_or_null i row)
row_text_at n i row d h = get_or-map-range_with_len (λ (at : ℕ). cell_text (cell_or_null at row)) 0 n i i d h (omega arith)

-- the texts of the line of names
pub length-header_texts : (cs : List (List ℕ × CellType)) → length (header_texts cs) ≡ length cs
length-header_texts cs = length-map cs (λ (c : List ℕ × CellType). escaped_text c.0)

pub header_text_at : (cs : List (List ℕ × CellType)) (i : ℕ) (c : List ℕ × CellType) (d : List ℕ) → i < length cs → get_or (header_texts cs) i d ≡ escaped_text (get_or cs i c).0
header_text_at cs i c d h = get_or-map (λ (x : List ℕ × CellType). escaped_text x.0) cs i c d h
