-- The windows of a column's cells, and its cumulative sums as a loop takes them.
use Rattle.std.proofs.Common.{◌≡◌, ℕ, ◌+◌, ◌<◌, ◌∙◌, zero, suc, List, [], ◌∷◌, ◌++◌, length, get_or, take, drop, map, refl, ap, sym, add-one, append_assoc, drop-cons, arith}
use Rattle.std.specs.Prelude.{ℤ, pos, ◌-◌, Option, Some, fold, slice_get, unwrap_or, if◌then◌else◌}
use Rattle.std.specs.List.{range_with_len}
use Rattle.std.proofs.lemmas.List.{length-map, length-append, drop-map, take-map}
use Rattle.df_value.specs.declared.cell.Cell.{Cell}
use Rattle.df_value.specs.declared.cell.Cell.TheVariants as cell
use Rattle.df_value.specs.Rows.{cell_at}
use Rattle.df_expr.specs.Value.{is_null}
use Rattle.df_ops.specs.Aggregates.{cells_of, sum_of, sum_with, number_of, last_cell}
use Rattle.df_ops.specs.LoopStates.{cum_sum_after, cum_sum_cell}
use Rattle.df_ops.specs.Windows.{rolling_cells, rolling_cell, cum_sum, cum_sum_at, window_of}
use Rattle.df_ops.specs.declared.windows.RollKind.{RollKind}

abbrev Rows : Type 0
Rows = List (List Cell)

-- the window of a column is the column of the window
pub window_cells :
    (index : Option ℕ) (w : ℕ) (rows : Rows) → window_of w (cells_of index rows) ≡ cells_of index (drop (length rows - w) rows)
window_cells index w rows =
    ap (λ n. drop (n - w) (cells_of index rows)) (length-map rows (cell_at index)) ∙ drop-map (cell_at index) (length rows - w) rows

-- the rolling values, each from the rows up to its own
pub rolled_rows :
    (k : RollKind) (w m : ℕ) (index : Option ℕ) (rows : Rows) →
    rolling_cells k w m (cells_of index rows)
    ≡ map (λ i. rolling_cell k m (window_of w (cells_of index (take (i + 1) rows)))) (range_with_len 0 (length rows))
rolled_rows k w m index rows =
    let value : List Cell → Cell = λ p. rolling_cell k m (window_of w p) in
    ap (λ (f : ℕ → Cell). map f (range_with_len 0 (length (cells_of index rows)))) (λ j. λ i. value (take-map (cell_at index) (i + 1) rows j))
    ∙ ap (λ n. map (λ i. value (cells_of index (take (i + 1) rows))) (range_with_len 0 n)) (length-map rows (cell_at index))

last_at : (xs : List Cell) (c : Cell) → slice_get (xs ++ c ∷ []) (length xs) ≡ Some c
last_at [] c = refl
last_at (x ∷ xs) c = last_at xs c

pub last_is : (xs : List Cell) (c : Cell) → last_cell (xs ++ c ∷ []) ≡ c
last_is xs c =
    let long = length-append xs (c ∷ []) in
    let index : length (xs ++ c ∷ []) - 1 ≡ length xs = omega arith in
    ap (λ n. unwrap_or (slice_get (xs ++ c ∷ []) n) cell.Null) index ∙ ap (λ (o : Option Cell). unwrap_or o cell.Null) (last_at xs c)

sum_more : (s : ℤ) (xs : List Cell) (c : Cell) →
    fold (λ sum c. sum_with sum (number_of c)) s (xs ++ c ∷ []) ≡ sum_with (fold (λ sum c. sum_with sum (number_of c)) s xs) (number_of c)
sum_more s [] c = refl
sum_more s (x ∷ xs) c = sum_more (sum_with s (number_of x)) xs c

sum_ends : (seen : List Cell) (c : Cell) → cum_sum_cell c (sum_of (seen ++ c ∷ [])) ≡ cum_sum_at (seen ++ c ∷ [])
sum_ends seen c = ap (λ d. if is_null d then cell.Null else cell.Wide (sum_of (seen ++ c ∷ []))) (sym (last_is seen c))

shifted : (f : ℕ → Cell) (a n : ℕ) → map f (range_with_len (a + 1) n) ≡ map (λ k. f (k + 1)) (range_with_len a n)
shifted f a zero = refl
shifted f a (suc n) = ap (λ (xs : List Cell). f (a + 1) ∷ xs) (shifted f (a + 1) n)

one_more : (seen : List Cell) (c : Cell) (cs : List Cell) (k : ℕ) → seen ++ take ((k + 1) + 1) (c ∷ cs) ≡ (seen ++ c ∷ []) ++ take (k + 1) cs
one_more seen c cs k = ap (λ n. seen ++ take n (c ∷ cs)) (add-one (k + 1)) ∙ sym (append_assoc seen (c ∷ []) (take (k + 1) cs))

running_from : (seen cells : List Cell) →
    cum_sum_after (sum_of seen) cells ≡ map (λ k. cum_sum_at (seen ++ take (k + 1) cells)) (range_with_len 0 (length cells))
running_from seen [] = refl
running_from seen (c ∷ cs) =
    let more : sum_of (seen ++ c ∷ []) ≡ sum_with (sum_of seen) (number_of c) = sum_more (pos 0) seen c in
    let first : cum_sum_cell c (sum_with (sum_of seen) (number_of c)) ≡ cum_sum_at (seen ++ c ∷ []) = ap (cum_sum_cell c) (sym more) ∙ sum_ends seen c in
    let rest : cum_sum_after (sum_with (sum_of seen) (number_of c)) cs
    ≡ map (λ k. cum_sum_at ((seen ++ c ∷ []) ++ take (k + 1) cs)) (range_with_len 0 (length cs)) =
    ap (λ s. cum_sum_after s cs) (sym more) ∙ running_from (seen ++ c ∷ []) cs in
    let moved : map (λ k. cum_sum_at (seen ++ take (k + 1) (c ∷ cs))) (range_with_len 1 (length cs))
    ≡ map (λ k. cum_sum_at ((seen ++ c ∷ []) ++ take (k + 1) cs)) (range_with_len 0 (length cs)) =
    shifted (λ k. cum_sum_at (seen ++ take (k + 1) (c ∷ cs))) 0 (length cs)
    ∙ ap (λ (f : ℕ → Cell). map f (range_with_len 0 (length cs))) (λ j. λ k. cum_sum_at (one_more seen c cs k j)) in
    ap (λ d. d ∷ cum_sum_after (sum_with (sum_of seen) (number_of c)) cs) first
    ∙ ap (λ (xs : List Cell). cum_sum_at (seen ++ c ∷ []) ∷ xs) (rest ∙ sym moved)

-- the loop's sums are the sums up to each cell
pub running_is : (cells : List Cell) → cum_sum_after (pos 0) cells ≡ cum_sum cells
running_is cells = running_from [] cells

-- one more row of the loop
pub next_row :
    (index : Option ℕ) (s : ℤ) (out : List Cell) (rows : Rows) (i : ℕ) (r : List Cell) → i < length rows → r ≡ get_or rows i r →
    let sum = sum_with s (number_of (cell_at index r)) in
    out ++ cum_sum_after s (cells_of index (drop i rows))
    ≡ (out ++ cum_sum_cell (cell_at index r) sum ∷ []) ++ cum_sum_after sum (cells_of index (drop (i + 1) rows))
next_row index s out rows i r h e =
    let sum = sum_with s (number_of (cell_at index r)) in
    let next : drop i rows ≡ r ∷ drop (suc i) rows = drop-cons rows i r h ∙ ap (λ x. x ∷ drop (suc i) rows) (sym e) in
    ap (λ (l : Rows). out ++ cum_sum_after s (cells_of index l)) next
    ∙ (sym (append_assoc out (cum_sum_cell (cell_at index r) sum ∷ []) (cum_sum_after sum (cells_of index (drop (suc i) rows))))
    ∙ ap (λ n. (out ++ cum_sum_cell (cell_at index r) sum ∷ []) ++ cum_sum_after sum (cells_of index (drop n rows))) (sym (add-one i)))
