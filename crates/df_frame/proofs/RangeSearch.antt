-- The least number of a block that is among the numbers of ranges which keep apart lies in the first range that ends behind
-- the block's first number.
use Rattle.std.proofs.Common.{◌≡◌, ℕ, ◌+◌, ◌<◌, ◌≤◌, Bool, true, false, zero, suc, cond, ◌∙◌, List, [], ◌∷◌, ⊎_elim, refl, ap, sym, arith}
use Rattle.std.specs.Prelude.{◌||◌, nat_lt, find, max, Option, Some, None}
use Rattle.std.specs.List.{range_with_len}
use Rattle.std.proofs.lemmas.Bool.{cases_lt, false_from_ne_true, false≢true, le-ltb, lt-ltb, ltb-true, ltb-false, or_left}
use Rattle.df_frame.specs.declared.ranges.RowRange.{RowRange}
use Rattle.df_frame.specs.Numbers.{has_number}
use Rattle.df_frame.specs.Ranges.{all_numbers, are_apart, begin_behind, range_numbers}
use Rattle.df_frame.proofs.Members.{has-append}
use Rattle.df_frame.proofs.RangesApart.{first-apart, IsFirstApart}
use Rattle.df_frame.proofs.Rising.{block-has, has-block}

above-at :
    (e n : ℕ) (r : RowRange) (b rest : Bool) → has_number (range_numbers r) n ≡ b → e < r.first → (b || rest) ≡ true →
    (rest ≡ true → r.first + r.len < n) → e < n
above-at e n r true rest is low h later = let at = has-block r.first r.len n is in omega (arith, low, at.0)
above-at e n r false rest is low h later = let above = later h in omega (arith, low, above)

-- the numbers of ranges that begin behind a number are above it
later-above :
    (e : ℕ) (rs : List RowRange) (n : ℕ) → begin_behind e rs ≡ true → are_apart rs ≡ true → has_number (all_numbers rs) n ≡ true → e < n
later-above e [] n b h m = absurd (false≢true m)
later-above e (r ∷ rs) n b h m =
    let first = first-apart r rs h in
    above-at e n r (has_number (range_numbers r) n) (has_number (all_numbers rs) n) refl (ltb-true e r.first b)
    (sym (has-append (range_numbers r) (all_numbers rs) n) ∙ m) (λ k. later-above (r.first + r.len) rs n first.behind first.rest k)

find-never : (p : ℕ → Bool) (a n : ℕ) → ((k : ℕ) → p k ≡ false) → find p (range_with_len a n) ≡ None
find-never p a zero h = refl
find-never p a (suc n) h =
    ap (λ b. cond b (Some a) (find p (range_with_len (a + 1) n))) (h a) ∙ find-never p (a + 1) n h

-- tests that agree from the first number of a block on find the same there
find-same :
    (p q : ℕ → Bool) (a n : ℕ) → ((k : ℕ) → a ≤ k → p k ≡ q k) → find p (range_with_len a n) ≡ find q (range_with_len a n)
find-same p q a zero h = refl
find-same p q a (suc n) h =
    ap (λ b. cond b (Some a) (find p (range_with_len (a + 1) n))) (h a (omega arith))
    ∙ ap (λ o. cond (q a) (Some a) o) (find-same p q (a + 1) n (λ k low. h k (omega (arith, low))))

-- the least number that passes is found, if it is in the block
find-least :
    (p : ℕ → Bool) (a n m : ℕ) → a ≤ m → p m ≡ true → ((k : ℕ) → a ≤ k → k < m → p k ≡ false) →
    find p (range_with_len a n) ≡ cond (nat_lt m (a + n)) (Some m) None
find-least p a zero m le passes fails = ap (λ b. cond b (Some m) None) (sym (le-ltb m (a + zero) (omega (arith, le))))
find-least p a (suc n) m le passes fails =
    ⊎_elim
    (λ (low : a < m).
    let next : (a + 1) + n ≡ a + suc n = omega arith in
    ap (λ b. cond b (Some a) (find p (range_with_len (a + 1) n))) (fails a (omega arith) low)
    ∙ (find-least p (a + 1) n m (omega (arith, low)) passes (λ k l h. fails k (omega (arith, l)) h)
    ∙ ap (λ k. cond (nat_lt m k) (Some m) None) next))
    (λ (high : m ≤ a).
    let same : a ≡ m = omega (arith, le, high) in
    ap (λ b. cond b (Some a) (find p (range_with_len (a + 1) n))) (ap p same ∙ passes)
    ∙ (ap Some same ∙ ap (λ b. cond b (Some m) None) (sym (lt-ltb m (a + suc n) (omega (arith, high))))))
    (cases_lt a m)

-- the least number of a block that is in a range which ends behind its first number
abbrev pub least_in : ℕ → ℕ → Option RowRange → Option ℕ
least_in a n None = None
least_in a n (Some r) = cond (nat_lt (max r.first a) (a + n)) (Some (max r.first a)) None

either-not : (b c : Bool) → b ≡ false → c ≡ false → (b || c) ≡ false
either-not true c e f = cc
either-not false c e f = f

found-at :
    (a n : ℕ) (r : RowRange) (rs : List RowRange) (b : Bool) → nat_lt a (r.first + r.len) ≡ b → IsFirstApart r rs →
    find (λ k. has_number (all_numbers rs) k) (range_with_len a n) ≡ least_in a n (find (λ r. nat_lt a (r.first + r.len)) rs) →
    find (λ k. has_number (all_numbers (r ∷ rs)) k) (range_with_len a n)
    ≡ least_in a n (cond b (Some r) (find (λ r. nat_lt a (r.first + r.len)) rs))
found-at a n r rs false e apart rest =
    let ends = ltb-false a (r.first + r.len) e in
    find-same (λ k. has_number (all_numbers (r ∷ rs)) k) (λ k. has_number (all_numbers rs) k) a n (λ k low.
    let out : has_number (range_numbers r) k ≡ false =
    false_from_ne_true (has_number (range_numbers r) k) (λ t. let at = has-block r.first r.len k t in omega (arith, at.1, ends, low)) in
    has-append (range_numbers r) (all_numbers rs) k ∙ ap (λ b. b || has_number (all_numbers rs) k) out)
    ∙ rest
found-at a n r rs true e apart rest =
    let ends = ltb-true a (r.first + r.len) e in
    let some = apart.some in
    let m : ℕ = max r.first a in
    find-least (λ k. has_number (all_numbers (r ∷ rs)) k) a n m (omega arith)
    (has-append (range_numbers r) (all_numbers rs) m
    ∙ or_left (has_number (range_numbers r) m) (has_number (all_numbers rs) m)
    (block-has r.first r.len m (omega arith) (omega (arith, ends, some))))
    (λ k low high.
    let out : has_number (range_numbers r) k ≡ false =
    false_from_ne_true (has_number (range_numbers r) k) (λ t. let at = has-block r.first r.len k t in omega (arith, at.0, low, high)) in
    let later : has_number (all_numbers rs) k ≡ false =
    false_from_ne_true (has_number (all_numbers rs) k) (λ t.
    let above = later-above (r.first + r.len) rs k apart.behind apart.rest t in omega (arith, above, low, high)) in
    has-append (range_numbers r) (all_numbers rs) k ∙ either-not (has_number (range_numbers r) k) (has_number (all_numbers rs) k) out later)

-- so it is found by one walk over the ranges
pub least-found :
    (a n : ℕ) (rs : List RowRange) → are_apart rs ≡ true →
    find (λ k. has_number (all_numbers rs) k) (range_with_len a n) ≡ least_in a n (find (λ r. nat_lt a (r.first + r.len)) rs)
least-found a n [] h = find-never (λ k. has_number (all_numbers []) k) a n (λ k. refl)
least-found a n (r ∷ rs) h =
    let first = first-apart r rs h in
    found-at a n r rs (nat_lt a (r.first + r.len)) refl first (least-found a n rs first.rest)
