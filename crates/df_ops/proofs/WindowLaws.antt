-- What joins rolling sums, cumulative sums and sums.
use Rattle.std.proofs.Common.{◌≡◌, ℕ, ◌+◌, ◌<◌, ◌≤◌, ◌∙◌, Bool, true, false, cond, zero, suc, List, [], ◌∷◌, ◌++◌, length, get_or, take, drop, map, refl, ap, sym, arith, zero-add}
use Rattle.std.specs.Prelude.{ℤ, IsTrue, not, ◌-◌, Some, slice_get, unwrap_or, nat_lt}
use Rattle.std.specs.List.{range_with_len}
use Rattle.std.proofs.lemmas.Bool.Decides.{Decides-ltb}
use Rattle.std.proofs.lemmas.List.{take_all, take_more}
use Rattle.std.proofs.lemmas.List.FromFn.{get_or-map-range_with_len, length-map-range_with_len, map-range_with_len_more}
use Rattle.std.proofs.lemmas.Option.{slice_get_read, slice_get_within}
use Rattle.df_value.specs.declared.cell.Cell.{Cell}
use Rattle.df_value.specs.declared.cell.Cell.TheVariants as cell
use Rattle.df_expr.specs.Value.{is_null}
use Rattle.df_ops.specs.Aggregates.{count_of, non_null, sum_of, last_cell}
use Rattle.df_ops.specs.Windows.{rolling_cell, cum_sum, cum_sum_at, window_of, AreSumsUpTo, EndsInSum, IsCumSum}
use Rattle.df_ops.specs.declared.windows.RollKind.{RollKind}
use Rattle.df_ops.specs.declared.windows.RollKind.TheVariants as roll
use Rattle.df_ops.proofs.WindowFacts.{last_is}

is_kept : (b : Bool) → IsTrue (not b) → b ≡ false
is_kept true h = cc
is_kept false h = refl

last_there : (b : Bool) (s : ℤ) → IsTrue (not (is_null (cond b cell.Null (cell.Wide s)))) → b ≡ false
last_there true s h = cc
last_there false s h = refl

more_here : (b : Bool) (c : Cell) (cs : List Cell) → b ≡ false → 0 < length (cond (not b) (c ∷ cs) cs)
more_here true c cs h = cc
more_here false c cs h = omega arith

more_later : (b : Bool) (c : Cell) (cs : List Cell) → 0 < length cs → 0 < length (cond b (c ∷ cs) cs)
more_later true c cs h = omega arith
more_later false c cs h = h

-- where a cell is not null, one at least is counted
some_counted : (cells : List Cell) (i : ℕ) → is_null (unwrap_or (slice_get cells i) cell.Null) ≡ false → 0 < count_of cells
some_counted [] i h = cc
some_counted (c ∷ cs) zero h = more_here (is_null c) c (non_null cs) h
some_counted (c ∷ cs) (suc i) h = more_later (not (is_null c)) c (non_null cs) (some_counted cs i h)

none_less : (n : ℕ) (b : Bool) → 0 < n → nat_lt n 1 ≡ b → b ≡ false
none_less n true h e = absurd (let less = (Decides-ltb n 1).0 e in omega arith)
none_less n false h e = refl

whole_window : (w : ℕ) (cells : List Cell) → length cells ≤ w → window_of w cells ≡ cells
whole_window w cells h =
    let none : length cells - w ≡ 0 = omega arith in
    ap (λ n. drop n cells) none

sum_all : (w : ℕ) (cells : List Cell) → length cells ≤ w → is_null (last_cell cells) ≡ false →
    rolling_cell roll.Sum 1 (window_of w cells) ≡ cum_sum_at cells
sum_all w cells h last =
    let enough : nat_lt (count_of cells) 1 ≡ false =
    none_less (count_of cells) (nat_lt (count_of cells) 1) (some_counted cells (length cells - 1) last) refl in
    ap (λ (p : List Cell). rolling_cell roll.Sum 1 p) (whole_window w cells h)
    ∙ (ap (λ b. cond b cell.Null (cell.Wide (sum_of cells))) enough
    ∙ sym (ap (λ b. cond b cell.Null (cell.Wide (sum_of cells))) last))

pub sum_is_running :
    (k : RollKind) (w m : ℕ) (cells : List Cell) (c : Cell) → c ≡ rolling_cell k m (window_of w cells) → IsCumSum k w m cells c
sum_is_running k w m cells c e is_sum long one there =
    e
    ∙ (ap (λ (k : RollKind). rolling_cell k m (window_of w cells)) is_sum
    ∙ (ap (λ n. rolling_cell roll.Sum n (window_of w cells)) one
    ∙ sum_all w cells long (last_there (is_null (last_cell cells)) (sum_of cells) there)))

get_of : (cells : List Cell) (i : ℕ) (c : Cell) → slice_get cells i ≡ Some c → get_or cells i c ≡ c
get_of [] i c h = cc
get_of (d ∷ cells) zero c h = cc
get_of (d ∷ cells) (suc i) c h = get_of cells i c h

last_running : (c : Cell) (cs : List Cell) → last_cell (cum_sum (c ∷ cs)) ≡ cum_sum_at (c ∷ cs)
last_running c cs =
    let f : ℕ → Cell = λ i. cum_sum_at (take (i + 1) (c ∷ cs)) in
    let n = length cs in
    let long : length (c ∷ cs) ≡ n + 1 = omega arith in
    let all : take (n + 1) (c ∷ cs) ≡ c ∷ cs = take_all (n + 1) (c ∷ cs) (omega arith) in
    ap (λ n. last_cell (map f (range_with_len 0 n))) long
    ∙ (ap last_cell (map-range_with_len_more f 0 n n (omega arith))
    ∙ (last_is (map f (range_with_len 0 n)) (f n) ∙ ap cum_sum_at all))

pub ends_in_sum : (cells sums : List Cell) → sums ≡ cum_sum cells → EndsInSum cells sums
ends_in_sum [] sums e there = cc
ends_in_sum (c ∷ cs) sums e there =
    let last : is_null (last_cell (c ∷ cs)) ≡ false = is_kept (is_null (last_cell (c ∷ cs))) there in
    ap last_cell e ∙ (last_running c cs ∙ ap (λ b. cond b cell.Null (cell.Wide (sum_of (c ∷ cs)))) last)

sum_here : (b : Bool) (s : ℤ) → b ≡ true → cond {A = Cell} b cell.Null (cell.Wide s) ≡ cell.Null
sum_here true s h = refl
sum_here false s h = cc

-- the cumulative sum at a cell is that of the cells up to it
sum_at :
    (cells : List Cell) (i : ℕ) (c : Cell) → slice_get cells i ≡ Some c →
    slice_get (cum_sum cells) i ≡ Some (cond (is_null c) cell.Null (cell.Wide (sum_of (take (i + 1) cells))))
sum_at cells i c h =
    let f : ℕ → Cell = λ k. cum_sum_at (take (k + 1) cells) in
    let lt : i < length cells = slice_get_within cells i c h in
    let long : length (cum_sum cells) ≡ length cells = length-map-range_with_len f 0 (length cells) in
    let read : slice_get (cum_sum cells) i ≡ Some (f i) =
    slice_get_read (cum_sum cells) (length (cum_sum cells)) i (f i) refl (omega arith)
    (sym (get_or-map-range_with_len f 0 (length cells) i i (f i) lt (zero-add i))) in
    let here : get_or cells i c ≡ c = get_of cells i c h in
    let last : last_cell (take (i + 1) cells) ≡ c = ap last_cell (take_more cells i c lt ∙ ap (λ d. take i cells ++ d ∷ []) here) ∙ last_is (take i cells) c in
    read ∙ ap (λ d. Some (cond (is_null d) cell.Null (cell.Wide (sum_of (take (i + 1) cells))))) last

pub sums_up_to : (cells sums : List Cell) → sums ≡ cum_sum cells → AreSumsUpTo cells sums
sums_up_to cells sums e i c h =
    let read = ap (λ xs. slice_get xs i) e ∙ sum_at cells i c h in (
      (λ t. read ∙ ap Some (sum_here (is_null c) (sum_of (take (i + 1) cells)) t)),
      (λ t. read ∙ ap (λ b. Some (cond b cell.Null (cell.Wide (sum_of (take (i + 1) cells))))) (is_kept (is_null c) t)),
    )
