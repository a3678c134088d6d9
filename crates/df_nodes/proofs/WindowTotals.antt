-- The totals of cells are those of one part and of the other; stacks of them.
use Rattle.std.proofs.Common.{◌≡◌, ℕ, zero, suc, ◌+◌, ◌-◌, ◌*◌, ◌^◌, ◌≤◌, Bool, true, false, not, cond, List, [], ◌∷◌, ◌++◌, length, take, drop, get_or, Option, Some, None, refl, sym, ap, ◌∙◌, arith}
use Rattle.std.specs.Prelude.{ℤ, pos, ◌+ℤ◌, ◌≤ℤ◌}
use Rattle.std.proofs.Math.Seq.{get_or-append_seam, take-append_seam}
use Rattle.std.proofs.lemmas.Bool.{false≢true}
use Rattle.std.proofs.lemmas.Int.{ints}
use Rattle.std.proofs.lemmas.List.{length-append}
use Rattle.df_value.specs.declared.cell.Cell.{Cell}
use Rattle.df_value.specs.declared.cell.Cell.TheVariants as cell
use Rattle.df_expr.specs.Value.{is_null}
use Rattle.df_ops.specs.Aggregates.{count_of, is_beyond, min_or_max_in, non_null, sum_of}
use Rattle.df_ops.specs.LoopStates.{min_or_max_after, min_or_max_with, non_null_of}
use Rattle.df_ops.specs.declared.min_max.MinMax.{MinMax}
use Rattle.df_ops.specs.declared.windows.RollKind.{RollKind}
use Rattle.df_ops.proofs.AggregateLaws.{count_is_count, sum_is_sum}
use Rattle.df_ops.proofs.Least.{IsStrict}
use Rattle.df_ops.proofs.MinMaxFacts.{min_or_max_after_is, strict}
use Rattle.df_nodes.specs.Sliding.{AreWords, IsSmall, IsWord, end_of, joined_totals, stacked, totals_of}
use Rattle.df_nodes.specs.declared.window_totals.Totals.{Totals}

-- of three cells, the one that none lies beyond, whichever two are compared first
module _ (below : Cell → Cell → Bool) (s : IsStrict below) (x y z : Cell) where
  far : below y x ≡ false → below z y ≡ false → (b r : Bool) → below z x ≡ b → below y z ≡ r → below z x ≡ false
  far p q false r e f = e
  far p q true true e f = absurd (false≢true (sym p ∙ s.trans y z x f e))
  far p q true false e f = ap (λ v. below v x) (sym (s.apart y z f q)) ∙ p

  three : (p q : Bool) → below y x ≡ p → below z y ≡ q → cond (below z (cond p y x)) z (cond p y x) ≡ cond (below (cond q z y) x) (cond q z y) x
  three true true e f = ap (λ b. cond b z y) f ∙ sym (ap (λ b. cond b z x) (s.trans z y x f e))
  three true false e f = ap (λ b. cond b z y) f ∙ sym (ap (λ b. cond b y x) e)
  three false true e f = refl
  three false false e f = ap (λ b. cond b z x) (far e f (below z x) (below y z) refl refl) ∙ sym (ap (λ b. cond b y x) e)

with_assoc : (e : MinMax) (a b c : Option Cell) → min_or_max_with e (min_or_max_with e a b) c ≡ min_or_max_with e a (min_or_max_with e b c)
with_assoc e a b None = refl
with_assoc e a None (Some c) = refl
with_assoc e None (Some b) (Some c) = refl
with_assoc e (Some a) (Some b) (Some c) = ap Some (three (is_beyond e) (strict e) a b c (is_beyond e b a) (is_beyond e c b) refl refl)

with_none : (e : MinMax) (a : Option Cell) → min_or_max_with e None a ≡ a
with_none e None = refl
with_none e (Some a) = refl

after_from : (e : MinMax) (s : Option Cell) (cs : List Cell) → min_or_max_after e s cs ≡ min_or_max_with e s (min_or_max_after e None cs)
after_from e s [] = refl
after_from e s (c ∷ cs) =
    let n = non_null_of c in
    after_from e (min_or_max_with e s n) cs
    ∙ with_assoc e s n (min_or_max_after e None cs)
    ∙ ap (min_or_max_with e s) (sym (after_from e n cs) ∙ ap (λ o. min_or_max_after e o cs) (sym (with_none e n)))

after_append : (e : MinMax) (s : Option Cell) (xs ys : List Cell) → min_or_max_after e s (xs ++ ys) ≡ min_or_max_after e (min_or_max_after e s xs) ys
after_append e s [] ys = refl
after_append e s (x ∷ xs) ys = after_append e (min_or_max_with e s (non_null_of x)) xs ys

extreme_join : (e : MinMax) (xs ys : List Cell) → min_or_max_in e (non_null (xs ++ ys)) ≡ min_or_max_with e (min_or_max_in e (non_null xs)) (min_or_max_in e (non_null ys))
extreme_join e xs ys =
    sym (min_or_max_after_is e (xs ++ ys))
    ∙ after_append e None xs ys
    ∙ after_from e (min_or_max_after e None xs) ys
    ∙ ap (λ o. min_or_max_with e o (min_or_max_after e None ys)) (min_or_max_after_is e xs)
    ∙ ap (min_or_max_with e (min_or_max_in e (non_null xs))) (min_or_max_after_is e ys)

pub totals_join : (kind : RollKind) (xs ys : List Cell) → totals_of kind (xs ++ ys) ≡ joined_totals kind (totals_of kind xs) (totals_of kind ys)
totals_join kind xs ys = λ i. record {
  count = count_is_count.of_parts xs ys i;
  sum = sum_is_sum.of_parts xs ys i;
  extreme = extreme_join (end_of kind) xs ys i;
}

-- what can be joined in 64 and 128 bits
count_few : (cs : List Cell) → count_of cs ≤ length cs
count_few [] = omega arith
count_few (c ∷ cs) = by_case (not (is_null c)) (count_few cs)
  where
    by_case : (b : Bool) → length (non_null cs) ≤ length cs → length (cond b (c ∷ non_null cs) (non_null cs)) ≤ suc (length cs)
    by_case true h = omega arith
    by_case false h = omega arith

sum_within : (cs : List Cell) → AreWords cs → (pos 0 ≤ℤ (sum_of cs +ℤ pos (length cs * 2 ^ 63))) × (sum_of cs ≤ℤ pos (length cs * 2 ^ 63))
sum_within [] h = (omega (arith, ints), omega (arith, ints))
sum_within (c ∷ cs) h =
    let rest = sum_within cs h.1 in
    let low_rest = rest.0 in
    let high_rest = rest.1 in
    let low = h.0.low in
    let high = h.0.high in
    let parts = sum_is_sum.of_parts (c ∷ []) cs in
    (omega (arith, ints), omega (arith, ints))

pub small_totals : (kind : RollKind) (cs : List Cell) → length cs ≤ 2 ^ 60 → AreWords cs → IsSmall (totals_of kind cs)
small_totals kind cs few words =
    let within = sum_within cs words in
    let low = within.0 in
    let high = within.1 in
    let count = count_few cs in
    record { few = omega arith; low = omega (arith, ints); high = omega (arith, ints) }

pub words_drop : (n : ℕ) (cs : List Cell) → AreWords cs → AreWords (drop n cs)
words_drop zero cs h = h
words_drop (suc n) [] h = tt
words_drop (suc n) (c ∷ cs) h = words_drop n cs h.1

pub words_push : (cs : List Cell) (c : Cell) → AreWords cs → IsWord c → AreWords (cs ++ c ∷ [])
words_push [] c h w = (w, tt)
words_push (d ∷ cs) c h w = (h.0, words_push cs c h.1 w)

pub stacked_length : (kind : RollKind) (cs : List Cell) → length (stacked kind cs) ≡ length cs + 1
stacked_length kind [] = refl
stacked_length kind (c ∷ cs) =
    let rest = stacked_length kind cs in
    let all = length-append (stacked kind cs) (totals_of kind (c ∷ cs) ∷ []) in
    omega arith

-- the last of a stack are the totals of all its cells
pub stacked_last : (kind : RollKind) (cs : List Cell) (d : Totals) → get_or (stacked kind cs) (length (stacked kind cs) - 1) d ≡ totals_of kind cs
stacked_last kind [] d = refl
stacked_last kind (c ∷ cs) d =
    let all = length-append (stacked kind cs) (totals_of kind (c ∷ cs) ∷ []) in
    let at : length (stacked kind (c ∷ cs)) - 1 ≡ length (stacked kind cs) = omega arith in
    ap (λ n. get_or (stacked kind (c ∷ cs)) n d) at ∙ get_or-append_seam (stacked kind cs) (totals_of kind (c ∷ cs)) [] d

-- without its last it is the stack of the younger cells
pub stacked_less : (kind : RollKind) (c : Cell) (cs : List Cell) → take (length (stacked kind (c ∷ cs)) - 1) (stacked kind (c ∷ cs)) ≡ stacked kind cs
stacked_less kind c cs =
    let all = length-append (stacked kind cs) (totals_of kind (c ∷ cs) ∷ []) in
    let at : length (stacked kind (c ∷ cs)) - 1 ≡ length (stacked kind cs) = omega arith in
    ap (λ n. take n (stacked kind (c ∷ cs))) at ∙ take-append_seam (stacked kind cs) (totals_of kind (c ∷ cs) ∷ [])

-- the totals of one cell that is not null
pub totals_of_one : (kind : RollKind) (c x : Cell) (n : ℤ) → (c ≡ cell.Null → ⊥) → x ≡ c → n ≡ sum_of (c ∷ []) → ◌≡◌ {A = Totals} (record { count = 1; sum = n; extreme = Some x }) (totals_of kind (c ∷ []))
totals_of_one kind cell.Null x n h same e = absurd (h refl)
totals_of_one kind (cell.Int k) x n h same e = λ i. record { count = 1; sum = e i; extreme = (ap Some same ∙ min_or_max_after_is (end_of kind) (cell.Int k ∷ [])) i }
totals_of_one kind (cell.Wide k) x n h same e = λ i. record { count = 1; sum = e i; extreme = (ap Some same ∙ min_or_max_after_is (end_of kind) (cell.Wide k ∷ [])) i }
totals_of_one kind (cell.Text k) x n h same e = λ i. record { count = 1; sum = e i; extreme = (ap Some same ∙ min_or_max_after_is (end_of kind) (cell.Text k ∷ [])) i }
totals_of_one kind (cell.Bool k) x n h same e = λ i. record { count = 1; sum = e i; extreme = (ap Some same ∙ min_or_max_after_is (end_of kind) (cell.Bool k ∷ [])) i }
totals_of_one kind (cell.Frac k) x n h same e = λ i. record { count = 1; sum = e i; extreme = (ap Some same ∙ min_or_max_after_is (end_of kind) (cell.Frac k ∷ [])) i }

-- one more cell before those of a stack
pub stacked_more : (kind : RollKind) (c : Cell) (cs : List Cell) (stack new : List Totals) → stack ≡ stacked kind cs
    → ((d : Totals) → new ≡ stack ++ joined_totals kind (totals_of kind (c ∷ [])) (get_or stack (length stack - 1) d) ∷ []) → new ≡ stacked kind (c ∷ cs)
stacked_more kind c cs stack new is more =
    let d = totals_of kind [] in
    more d
    ∙ ap (λ l. l ++ joined_totals kind (totals_of kind (c ∷ [])) (get_or l (length l - 1) d) ∷ []) is
    ∙ ap (λ t. stacked kind cs ++ t ∷ []) (ap (joined_totals kind (totals_of kind (c ∷ []))) (stacked_last kind cs d) ∙ sym (totals_join kind (c ∷ []) cs))
