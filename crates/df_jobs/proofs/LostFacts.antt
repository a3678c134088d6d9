-- Outcomes of which those before a place are by their jobs: the first that is not tells the least job without exactly one
-- outcome.
use Rattle.std.proofs.Common.{◌≡◌, ◌≢◌, ℕ, zero, suc, ◌+◌, ◌-◌, ◌<◌, ◌≤◌, ◌∙◌, List, [], ◌∷◌, map, length, take, get_or, refl, ap, sym, arith}
use Rattle.std.specs.Prelude.{All, ◌==◌, ◌⊎◌, if◌then◌else◌}
use Rattle.std.specs.List.{range_with_len}
use Rattle.std.specs.List.Sorted.{IsNonDecreasingBy, IsPermutation}
use Rattle.std.proofs.lemmas.Bool.{ne_eqb, eq-eqb}
use Rattle.std.proofs.lemmas.List.{length-map}
use Rattle.std.proofs.lemmas.List.FromFn.{length-range_with_len}
use Rattle.std.proofs.lemmas.List.Sorted.{sum_by-IsPermutation}
use Rattle.std.proofs.lemmas.List.Sums.{sum_by-cons}
use mathlib.Core.Logic.{inl, inr}
use Rattle.df_state.proofs.ListFacts.{same-default}
use Rattle.df_jobs.specs.declared.jobs.Outcome.{Outcome}
use Rattle.df_jobs.specs.Lost.{HaveOneEach, IsLost, outcomes_of}

is-one : (m n : ℕ) → m ≡ n → ◌≡◌ {A = ℕ} (if m == n then 1 else 0) 1
is-one m n e = ap (λ b. if b then 1 else 0) (eq-eqb m n e)

is-none : (m n : ℕ) → m ≢ n → ◌≡◌ {A = ℕ} (if m == n then 1 else 0) 0
is-none m n e = ap (λ b. if b then 1 else 0) (ne_eqb m n e)

none-of : (os : List Outcome) (k : ℕ) → ((i : ℕ) (d : Outcome) → i < length os → (get_or os i d).job ≢ k) → outcomes_of k os ≡ 0
none-of [] k other = refl
none-of (o ∷ os) k other =
    let here = is-none o.job k (other 0 o (omega arith)) in
    let rest = none-of os k (λ i d h. other (suc i) d (omega (arith, h))) in
    let both = sum_by-cons (λ (x : Outcome). if x.job == k then 1 else 0) o os in
    omega (arith, here, rest, both)

once :
    (os : List Outcome) (p k : ℕ) → p < length os → ((d : Outcome) → (get_or os p d).job ≡ k) →
    ((i : ℕ) (d : Outcome) → i < length os → i ≢ p → (get_or os i d).job ≢ k) → outcomes_of k os ≡ 1
once [] p k h is other = absurd (omega (arith, h))
once (o ∷ os) zero k h is other =
    let here = is-one o.job k (is o) in
    let rest = none-of os k (λ i d l. other (suc i) d (omega (arith, l)) (λ e. omega (arith, e))) in
    let both = sum_by-cons (λ (x : Outcome). if x.job == k then 1 else 0) o os in
    omega (arith, here, rest, both)
once (o ∷ os) (suc p) k h is other =
    let here = is-none o.job k (other 0 o (omega arith) (λ e. omega (arith, e))) in
    let rest = once os p k (omega (arith, h)) is (λ i d l n. other (suc i) d (omega (arith, l)) (λ e. n (omega (arith, e)))) in
    let both = sum_by-cons (λ (x : Outcome). if x.job == k then 1 else 0) o os in
    omega (arith, here, rest, both)

at-least-one : (os : List Outcome) (q k : ℕ) → q < length os → ((d : Outcome) → (get_or os q d).job ≡ k) → 1 ≤ outcomes_of k os
at-least-one [] q k h is = absurd (omega (arith, h))
at-least-one (o ∷ os) zero k h is =
    let here = is-one o.job k (is o) in
    let both = sum_by-cons (λ (x : Outcome). if x.job == k then 1 else 0) o os in
    omega (arith, here, both)
at-least-one (o ∷ os) (suc q) k h is =
    let rest = at-least-one os q k (omega (arith, h)) is in
    let both = sum_by-cons (λ (x : Outcome). if x.job == k then 1 else 0) o os in
    omega (arith, rest, both)

twice :
    (os : List Outcome) (p q k : ℕ) → p < q → q < length os → ((d : Outcome) → (get_or os p d).job ≡ k) → ((d : Outcome) → (get_or os q d).job ≡ k) →
    2 ≤ outcomes_of k os
twice [] p q k l h is also = absurd (omega (arith, h))
twice (o ∷ os) p zero k l h is also = absurd (omega (arith, l))
twice (o ∷ os) zero (suc q) k l h is also =
    let here = is-one o.job k (is o) in
    let rest = at-least-one os q k (omega (arith, h)) also in
    let both = sum_by-cons (λ (x : Outcome). if x.job == k then 1 else 0) o os in
    omega (arith, here, rest, both)
twice (o ∷ os) (suc p) (suc q) k l h is also =
    let rest = twice os p q k (omega (arith, l)) (omega (arith, h)) is also in
    let both = sum_by-cons (λ (x : Outcome). if x.job == k then 1 else 0) o os in
    omega (arith, rest, both)

abbrev behind-first : List ℕ → List ℕ
behind-first [] = []
behind-first (n ∷ ns) = ns

-- each outcome before a place is of the job of its place
abbrev Rise : List Outcome → ℕ → Type 0
Rise os at = (i : ℕ) (d : Outcome) → i < at → i < length os → (get_or os i d).job ≡ i

rise-from : (os : List Outcome) (a at i : ℕ) (d : Outcome) → map (λ o. o.job) (take at os) ≡ range_with_len a at → i < at → i < length os → (get_or os i d).job ≡ a + i
rise-from [] a at i d e h l = absurd (omega (arith, l))
rise-from (o ∷ os) a zero i d e h l = absurd (omega (arith, h))
rise-from (o ∷ os) a (suc at) zero d e h l = let here = ap (λ ns. get_or ns 0 0) e in omega (arith, here)
rise-from (o ∷ os) a (suc at) (suc i) d e h l =
    let rest = rise-from os (a + 1) at i d (ap behind-first e) (omega (arith, h)) (omega (arith, l)) in omega (arith, rest)

rise-from-all : (os : List Outcome) (a i : ℕ) (d : Outcome) → map (λ o. o.job) os ≡ range_with_len a (length os) → i < length os → (get_or os i d).job ≡ a + i
rise-from-all [] a i d e l = absurd (omega (arith, l))
rise-from-all (o ∷ os) a zero d e l = let here = ap (λ ns. get_or ns 0 0) e in omega (arith, here)
rise-from-all (o ∷ os) a (suc i) d e l =
    let rest = rise-from-all os (a + 1) i d (ap behind-first e) (omega (arith, l)) in omega (arith, rest)

pub rises : (os : List Outcome) (at : ℕ) → map (λ o. o.job) (take at os) ≡ range_with_len 0 at → Rise os at
rises os at e i d h l = let r = rise-from os 0 at i d e h l in omega (arith, r)

-- a number is below another or not
below : (i at : ℕ) → (i < at) ⊎ (at ≤ i)
below i zero = inr (omega arith)
below zero (suc at) = inl (omega arith)
below (suc i) (suc at) = elim (below i at) [
  | inl low ↦ inl (omega (arith, low))
  | inr high ↦ inr (omega (arith, high))
]

-- where all outcomes from a place on are of jobs above k, and k is below the place, k has one
one-before : (os : List Outcome) (at k : ℕ) → Rise os at → k < at → k < length os → ((i : ℕ) (d : Outcome) → at ≤ i → i < length os → k < (get_or os i d).job) → outcomes_of k os ≡ 1
one-before os at k rise h l above =
    once os k k l (λ d. rise k d h l) (λ i d m n e. elim (below i at) [
      | inl low ↦ (let r = rise i d low m in n (omega (arith, r, e)))
      | inr high ↦ (let a = above i d high m in omega (arith, a, e))
    ])

-- and above, or where nothing is, the place itself has none
none-at :
    (os : List Outcome) (at : ℕ) → Rise os at → ((i : ℕ) (d : Outcome) → at ≤ i → i < length os → at < (get_or os i d).job) → outcomes_of at os ≡ 0
none-at os at rise above =
    none-of os at (λ i d m e. elim (below i at) [
      | inl low ↦ (let r = rise i d low m in omega (arith, r, e, low))
      | inr high ↦ (let a = above i d high m in omega (arith, a, e))
    ])

-- the outcome at the first place whose job is another
pub lost-at :
    (os : List Outcome) (jobs at lost : ℕ) (o : Outcome) → IsNonDecreasingBy (λ x. x.job) os → All (λ x. x.job < jobs) os → at < length os →
    o ≡ get_or os at o → map (λ x. x.job) (take at os) ≡ range_with_len 0 at → o.job ≢ at → (o.job < at → lost ≡ o.job) → (at ≤ o.job → lost ≡ at) →
    IsLost jobs os lost
lost-at os jobs at lost o order within h is before other less more = elim (below o.job at) [
  | inl low ↦ doubled low
  | inr high ↦ left-out high
]
  where
    rise : Rise os at
    rise = rises os at before

    job : (d : Outcome) → (get_or os at d).job ≡ o.job
    job d = let e = same-default os at d o h in ap (λ x. x.job) e ∙ sym (ap (λ x. x.job) is)

    later : (i : ℕ) (d : Outcome) → at ≤ i → i < length os → o.job ≤ (get_or os i d).job
    later i d high m = let a = order at i d high m in let b = job d in omega (arith, a, b)

    doubled : o.job < at → IsLost jobs os lost
    doubled low =
        let prior : at - 1 < length os = omega (arith, low, h) in
        let r = rise (at - 1) o (omega (arith, low)) prior in
        let up = order (at - 1) at o (omega arith) h in
        let now = job o in
        let e = less low in
        let last : o.job ≡ at - 1 = omega (arith, r, up, now, low) in
        let w = within at o h in record {
          within = omega (arith, e, w, now);
          not_one = λ f.
              let two = twice os (at - 1) at lost (omega (arith, low)) h
              (λ d. let s = rise (at - 1) d (omega (arith, low)) prior in omega (arith, s, last, e))
              (λ d. let s = job d in omega (arith, s, e)) in
              omega (arith, two, f);
          before = λ k l. one-before os at k rise (omega (arith, l, e, low)) (omega (arith, l, e, low, h))
              (λ i d high m. let a = later i d high m in omega (arith, a, l, e));
        }

    left-out : at ≤ o.job → IsLost jobs os lost
    left-out high =
        let e = more high in
        let above : at < o.job = omega (arith, high, other) in
        let w = within at o h in
        let now = job o in record {
          within = omega (arith, e, w, now, above);
          not_one = λ f.
              let none = none-at os at rise (λ i d m l. let a = later i d m l in omega (arith, a, above)) in
              let g : outcomes_of at os ≡ 1 = ap (λ k. outcomes_of k os) (sym e) ∙ f in
              omega (arith, none, g);
          before = λ k l. one-before os at k rise (omega (arith, l, e)) (omega (arith, l, e, h))
              (λ i d m n. let a = later i d m n in omega (arith, a, above, l, e));
        }

fewer : (os : List Outcome) (jobs : ℕ) → All (λ x. x.job < jobs) os → Rise os (length os) → length os ≢ jobs → length os < jobs
fewer [] jobs within rise other = omega (arith, other)
fewer (o ∷ os) jobs within rise other =
    let w = within (length os) o (omega arith) in
    let r = rise (length os) o (omega arith) (omega arith) in
    omega (arith, w, r, other)

-- where each outcome is of the job of its place, and there are not so many
pub lost-behind :
    (os : List Outcome) (jobs : ℕ) → All (λ x. x.job < jobs) os → map (λ x. x.job) os ≡ range_with_len 0 (length os) → length os ≢ jobs →
    IsLost jobs os (length os)
lost-behind os jobs within is other =
    let rise : Rise os (length os) = λ i d h l. let r = rise-from-all os 0 i d is l in omega (arith, r) in record {
      within = fewer os jobs within rise other;
      not_one = λ f.
          let none = none-at os (length os) rise (λ i d m l. absurd (omega (arith, m, l))) in
          omega (arith, none, f);
      before = λ k l. one-before os (length os) k rise l l (λ i d m n. absurd (omega (arith, m, n)));
    }

-- the order of the outcomes does not matter to which job is lost
pub lost-of-order : (jobs job : ℕ) (before after : List Outcome) → IsPermutation before after → IsLost jobs after job → IsLost jobs before job
lost-of-order jobs job before after p l =
    let same : (k : ℕ) → outcomes_of k after ≡ outcomes_of k before = λ k. sum_by-IsPermutation (λ (o : Outcome). if o.job == k then 1 else 0) before after p in
    record {
      within = l.within;
      not_one = λ e. l.not_one (same job ∙ e);
      before = λ k h. sym (same k) ∙ l.before k h;
    }

-- where each outcome in the order of the jobs is of the job of its place, each job has exactly one
pub one-each :
    (before after seen : List Outcome) (counted jobs : ℕ) → IsPermutation before after → seen ≡ after → map (λ x. x.job) seen ≡ range_with_len 0 counted → counted ≡ jobs →
    HaveOneEach jobs before
one-each before after seen counted jobs p same is count k h =
    let all : map (λ (x : Outcome). x.job) after ≡ range_with_len 0 counted = ap (map (λ (x : Outcome). x.job)) (sym same) ∙ is in
    let len : length after ≡ counted = sym (length-map after (λ (x : Outcome). x.job)) ∙ (ap length all ∙ length-range_with_len 0 counted) in
    let own : map (λ (x : Outcome). x.job) after ≡ range_with_len 0 (length after) = all ∙ ap (range_with_len 0) (sym len) in
    let rise : Rise after (length after) = λ i d h l. let r = rise-from-all after 0 i d own l in omega (arith, r) in
    sym (sum_by-IsPermutation (λ (o : Outcome). if o.job == k then 1 else 0) before after p)
    ∙ one-before after (length after) k rise (omega (arith, h, len, count)) (omega (arith, h, len, count)) (λ i d m n. absurd (omega (arith, m, n)))
