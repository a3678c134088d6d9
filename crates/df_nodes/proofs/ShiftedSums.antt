-- Cumulative sums from a row on: what stands at an index, and that they are the sums of all rows, too great by what they began too great.
use Rattle.std.proofs.Common.{◌≡◌, ℕ, zero, suc, ◌+◌, ◌-◌, ◌<◌, ◌≤◌, pos, Bool, true, false, List, [], ◌∷◌, ◌++◌, length, take, drop, get_or, Option, Some, None, refl, sym, ap, ◌∙◌, arith, length-drop}
use Rattle.std.specs.Prelude.{ℤ, ◌+ℤ◌, ◌-ℤ◌, fold, if◌then◌else◌}
use Rattle.std.proofs.Math.IntN.{+ℤ_assoc, +ℤ_comm, +ℤ_idr, -ℤ-+ℤ_cancel}
use Rattle.std.proofs.Math.Seq.{take-add}
use Rattle.std.proofs.lemmas.List.{get_or-drop, take_more}
use Rattle.std.proofs.lemmas.List.Sums.{fold-append}
use Rattle.df_value.specs.declared.cell.Cell.{Cell}
use Rattle.df_value.specs.declared.cell.Cell.TheVariants as cell
use Rattle.df_expr.specs.Value.{is_null}
use Rattle.df_ops.specs.Aggregates.{last_cell, number_of, sum_of, sum_with}
use Rattle.df_ops.specs.LoopStates.{cum_sum_after, cum_sum_cell}
use Rattle.df_ops.specs.Windows.{cum_sum_at}
use Rattle.df_ops.proofs.WindowFacts.{last_is}
use Rattle.df_nodes.specs.Sums.{shifted_sum}

-- a sum and the cells behind it
abbrev pub sum_from : ℤ → List Cell → ℤ
sum_from s cs = fold (λ sum c. sum_with sum (number_of c)) s cs

moved : (a d n : ℤ) → (a +ℤ d) +ℤ n ≡ (a +ℤ n) +ℤ d
moved a d n = +ℤ_assoc a d n ∙ ap (λ x. a +ℤ x) (+ℤ_comm d n) ∙ sym (+ℤ_assoc a n d)

with_moved : (a d : ℤ) (n : Option ℤ) → sum_with (a +ℤ d) n ≡ sum_with a n +ℤ d
with_moved a d None = refl
with_moved a d (Some n) = moved a d n

-- what a sum begins too great it ends too great
sum_shift : (a d : ℤ) (cs : List Cell) → sum_from (a +ℤ d) cs ≡ sum_from a cs +ℤ d
sum_shift a d [] = refl
sum_shift a d (c ∷ cs) = ap (λ s. sum_from s cs) (with_moved a d (number_of c)) ∙ sum_shift (sum_with a (number_of c)) d cs

pub after_length : (s : ℤ) (cs : List Cell) → length (cum_sum_after s cs) ≡ length cs
after_length s [] = refl
after_length s (c ∷ cs) = ap suc (after_length (sum_with s (number_of c)) cs)

after_at : (s : ℤ) (cs : List Cell) (i : ℕ) → i < length cs → get_or (cum_sum_after s cs) i cell.Null ≡ cum_sum_cell (get_or cs i cell.Null) (sum_from s (take (suc i) cs))
after_at s [] i lt = absurd (omega arith)
after_at s (c ∷ cs) zero lt = refl
after_at s (c ∷ cs) (suc i) lt = after_at (sum_with s (number_of c)) cs i (omega arith)

-- the sums behind the first rows, at an index
pub shifted_at : (s : ℤ) (cells : List Cell) (start at : ℕ) → start ≤ at → at < length cells
    → get_or (cum_sum_after s (drop start cells)) (at - start) cell.Null ≡ shifted_sum (s -ℤ sum_of (take start cells)) (take (at + 1) cells)
shifted_at s cells start at low lt =
    let front = sum_of (take start cells) in
    let by = s -ℤ front in
    let later = drop start cells in
    let long = length-drop start cells in
    let i : at - start < length later = omega (arith, long) in
    let place : start + (at - start) ≡ at = omega arith in
    let next : start + suc (at - start) ≡ at + 1 = omega arith in
    let whole : take (at + 1) cells ≡ take start cells ++ take (suc (at - start)) later = ap (λ n. take n cells) (sym next) ∙ take-add start (suc (at - start)) cells in
    let last : last_cell (take (at + 1) cells) ≡ get_or cells at cell.Null = ap last_cell (take_more cells at cell.Null lt) ∙ last_is (take at cells) (get_or cells at cell.Null) in
    let own : get_or later (at - start) cell.Null ≡ get_or cells at cell.Null = get_or-drop start cells (at - start) cell.Null ∙ ap (λ n. get_or cells n cell.Null) place in
    let begins : s ≡ front +ℤ by = sym (+ℤ_comm front by ∙ -ℤ-+ℤ_cancel s front) in
    let sum : sum_from s (take (suc (at - start)) later) ≡ sum_of (take (at + 1) cells) +ℤ by =
    ap (λ a. sum_from a (take (suc (at - start)) later)) begins
    ∙ sum_shift front by (take (suc (at - start)) later)
    ∙ ap (λ a. a +ℤ by) (sym (fold-append (λ sum c. sum_with sum (number_of c)) (pos 0) (take start cells) (take (suc (at - start)) later)))
    ∙ ap (λ l. sum_of l +ℤ by) (sym whole) in
    after_at s later (at - start) i
    ∙ (λ j. cum_sum_cell ((own ∙ sym last) j) (sum j))

-- sums that begin right are right
pub unshifted : (by : ℤ) → by ≡ pos 0 → shifted_sum by ≡ cum_sum_at
unshifted by e = λ i cells. if is_null (last_cell cells) then cell.Null else cell.Wide ((ap (λ b. sum_of cells +ℤ b) e ∙ +ℤ_idr (sum_of cells)) i)

-- at a null the sum stays, and elsewhere it stands there
last_null : (cells : List Cell) → cum_sum_at cells ≡ cell.Null → is_null (last_cell cells) ≡ true
last_null cells e = by_null (is_null (last_cell cells)) e where
  by_null : (b : Bool) → (if b then cell.Null else cell.Wide (sum_of cells)) ≡ cell.Null → b ≡ true
  by_null true e = refl
  by_null false e = cc e

no_number : (c : Cell) → is_null c ≡ true → number_of c ≡ None
no_number cell.Null e = refl
no_number (cell.Bool b) e = cc e
no_number (cell.Int n) e = cc e
no_number (cell.Wide n) e = cc
no_number (cell.Frac p) e = cc
no_number (cell.Text t) e = cc

pub null_sum : (cells : List Cell) (at : ℕ) → at < length cells → cum_sum_at (take (at + 1) cells) ≡ cell.Null → sum_of (take at cells) ≡ sum_of (take (at + 1) cells)
null_sum cells at lt e =
    let whole = take_more cells at cell.Null lt in
    let c = get_or cells at cell.Null in
    let last : last_cell (take (at + 1) cells) ≡ c = ap last_cell whole ∙ last_is (take at cells) c in
    let none : number_of c ≡ None = no_number c (ap is_null (sym last) ∙ last_null (take (at + 1) cells) e) in
    sym
    (ap sum_of whole
    ∙ fold-append (λ sum c. sum_with sum (number_of c)) (pos 0) (take at cells) (c ∷ [])
    ∙ ap (sum_with (sum_of (take at cells))) none)

pub wide_sum : (cells : List Cell) (s : ℤ) → cum_sum_at cells ≡ cell.Wide s → sum_of cells ≡ s
wide_sum cells s e = by_null (is_null (last_cell cells)) e where
  by_null : (b : Bool) → (if b then cell.Null else cell.Wide (sum_of cells)) ≡ cell.Wide s → sum_of cells ≡ s
  by_null true e = cc e
  by_null false e = cc e
