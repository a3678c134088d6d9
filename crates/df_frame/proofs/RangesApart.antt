-- Ranges that keep apart, and what may be added behind them.
use Rattle.std.proofs.Common.{◌≡◌, ℕ, ◌+◌, ◌-◌, ◌<◌, ◌≤◌, Bool, true, false, zero, suc, cond, ◌∙◌, List, [], ◌∷◌, ◌++◌, filter, length, take, get_or, ⊎_elim, refl, ap, sym, subst, arith}
use Rattle.std.specs.Prelude.{◌&&◌, ◌||◌, nat_lt, nat_le, find, None}
use Rattle.std.specs.List.{list_any, range_with_len}
use Rattle.std.proofs.lemmas.Bool.{and_parts, and_from, cases_lt, le-leb, le-ltb, lt-ltb, ltb-true, ltb-false, true≢false}
use Rattle.std.proofs.lemmas.List.Elements.{All-from_get_or, All-get_or}
use Rattle.std.proofs.lemmas.List.Folds.{list_any_at}
use Rattle.std.proofs.lemmas.List.Sums.{AllPass-from_list_all, list_all-from_AllPass}
use Rattle.df_frame.specs.declared.ranges.RowRange.{RowRange}
use Rattle.df_frame.specs.Numbers.{are_below, has_number}
use Rattle.df_frame.specs.Ranges.{all_numbers, are_apart, are_below_from, begin_behind, range_numbers, ranges_below}
use Rattle.df_frame.proofs.Members.{all-from, all-to, find-none, has-filter}
use Rattle.df_frame.proofs.RangeFacts.{lies_in, numbers-below, ranges-have}
use Rattle.df_frame.proofs.Rising.{below-both, block-below, block-has}

-- what is known of the first of ranges that keep apart
pub record IsFirstApart (r : RowRange) (rs : List RowRange) : Type 0 where
  pub some : 0 < r.len
  pub behind : begin_behind (r.first + r.len) rs ≡ true
  pub rest : are_apart rs ≡ true

pub first-apart : (r : RowRange) (rs : List RowRange) → are_apart (r ∷ rs) ≡ true → IsFirstApart r rs
first-apart r rs h =
    let parts = and_parts (nat_lt 0 r.len) (begin_behind (r.first + r.len) rs && are_apart rs) h in
    let later = and_parts (begin_behind (r.first + r.len) rs) (are_apart rs) parts.1 in
    record { some = ltb-true 0 r.len parts.0; behind = later.0; rest = later.1 }

apart-from : (r : RowRange) (rs : List RowRange) → 0 < r.len → begin_behind (r.first + r.len) rs ≡ true → are_apart rs ≡ true → are_apart (r ∷ rs) ≡ true
apart-from r rs some behind rest =
    and_from (nat_lt 0 r.len) (begin_behind (r.first + r.len) rs && are_apart rs) (lt-ltb 0 r.len some)
    (and_from (begin_behind (r.first + r.len) rs) (are_apart rs) behind rest)

-- ranges that keep apart and begin behind a number all do
behind-at :
    (e : ℕ) (rs : List RowRange) (j : ℕ) (d : RowRange) → begin_behind e rs ≡ true → are_apart rs ≡ true → j < length rs → e < (get_or rs j d).first
behind-at e [] j d b h within = absurd (omega (arith, within))
behind-at e (r ∷ rs) zero d b h within = ltb-true e r.first b
behind-at e (r ∷ rs) (suc j) d b h within =
    let first = first-apart r rs h in
    let here = ltb-true e r.first b in
    let later = behind-at (r.first + r.len) rs j d first.behind first.rest (omega (arith, within)) in
    omega (arith, here, later)

pub some-at : (rs : List RowRange) (j : ℕ) (d : RowRange) → are_apart rs ≡ true → j < length rs → 0 < (get_or rs j d).len
some-at [] j d h within = absurd (omega (arith, within))
some-at (r ∷ rs) zero d h within = (first-apart r rs h).some
some-at (r ∷ rs) (suc j) d h within = some-at rs j d (first-apart r rs h).rest (omega (arith, within))

below-more : (j k : ℕ) (xs : List ℕ) → j ≤ k → are_below j xs ≡ true → are_below k xs ≡ true
below-more j k xs le h =
    all-from (λ n. nat_lt n k) xs (λ n at. let low = ltb-true n j (all-to (λ n. nat_lt n j) xs n h at) in lt-ltb n k (omega (arith, low, le)))

below-cond :
    (b : Bool) (r : RowRange) (rs : List RowRange) (k : ℕ) → are_below k (range_numbers r) ≡ true → are_below k (all_numbers rs) ≡ true →
    are_below k (all_numbers (cond b (r ∷ rs) rs)) ≡ true
below-cond true r rs k h g = below-both k (range_numbers r) (all_numbers rs) h g
below-cond false r rs k h g = g

-- the numbers of earlier ranges are below a later one
pub earlier-below :
    (p : RowRange → Bool) (rs : List RowRange) (i : ℕ) (d : RowRange) → are_apart rs ≡ true → i < length rs →
    are_below (get_or rs i d).first (all_numbers (filter p (take i rs))) ≡ true
earlier-below p [] i d h within = absurd (omega (arith, within))
earlier-below p (r ∷ rs) zero d h within = refl
earlier-below p (r ∷ rs) (suc i) d h within =
    let first = first-apart r rs h in
    let later = behind-at (r.first + r.len) rs i d first.behind first.rest (omega (arith, within)) in
    below-cond (p r) r (filter p (take i rs)) (get_or rs i d).first
    (block-below r.first r.len (get_or rs i d).first (omega (arith, later)))
    (earlier-below p rs i d first.rest (omega (arith, within)))

-- a longer last range
pub apart-longer :
    (xs : List RowRange) (a b : RowRange) → a.first ≡ b.first → 0 < b.len → are_apart (xs ++ a ∷ []) ≡ true → are_apart (xs ++ b ∷ []) ≡ true
apart-longer [] a b same some h = apart-from b [] some refl refl
apart-longer (x ∷ []) a b same some h =
    let first = first-apart x (a ∷ []) h in
    apart-from x (b ∷ []) first.some (ap (nat_lt (x.first + x.len)) (sym same) ∙ first.behind) (apart-longer [] a b same some first.rest)
apart-longer (x ∷ (z ∷ zs)) a b same some h =
    let first = first-apart x (z ∷ zs ++ a ∷ []) h in
    apart-from x (z ∷ zs ++ b ∷ []) first.some first.behind (apart-longer (z ∷ zs) a b same some first.rest)

-- one range more, which begins behind the end of the last
apart-behind :
    (xs : List RowRange) (a b : RowRange) → a.first + a.len < b.first → 0 < b.len → are_apart (xs ++ a ∷ []) ≡ true →
    are_apart ((xs ++ a ∷ []) ++ b ∷ []) ≡ true
apart-behind [] a b behind some h =
    let first = first-apart a [] h in
    apart-from a (b ∷ []) first.some (lt-ltb (a.first + a.len) b.first behind) (apart-from b [] some refl refl)
apart-behind (x ∷ []) a b behind some h =
    let first = first-apart x (a ∷ []) h in
    apart-from x (a ∷ (b ∷ [])) first.some first.behind (apart-behind [] a b behind some first.rest)
apart-behind (x ∷ (z ∷ zs)) a b behind some h =
    let first = first-apart x (z ∷ zs ++ a ∷ []) h in
    apart-from x ((z ∷ zs ++ a ∷ []) ++ b ∷ []) first.some first.behind (apart-behind (z ∷ zs) a b behind some first.rest)

last-some : (xs : List RowRange) (a : RowRange) → are_apart (xs ++ a ∷ []) ≡ true → 0 < a.len
last-some [] a h = (first-apart a [] h).some
last-some (x ∷ xs) a h = last-some xs a (first-apart x (xs ++ a ∷ []) h).rest

has-last : (xs : List RowRange) (a : RowRange) (n : ℕ) → lies_in n a ≡ true → list_any (λ r. lies_in n r) (xs ++ a ∷ []) ≡ true
has-last [] a n h = ap (λ b. b || false) h
has-last (x ∷ xs) a n h = or-later (lies_in n x) _ (has-last xs a n h)
  where
    or-later : (b c : Bool) → c ≡ true → (b || c) ≡ true
    or-later true c e = refl
    or-later false c e = e

-- the end of the last range is not above what all numbers are below
last-below : (xs : List RowRange) (a : RowRange) (k : ℕ) → are_apart (xs ++ a ∷ []) ≡ true → are_below k (all_numbers (xs ++ a ∷ [])) ≡ true → a.first + a.len ≤ k
last-below xs a k h below =
    let some = last-some xs a h in
    let n : ℕ = a.first + a.len - 1 in
    let in-last : lies_in n a ≡ true = and_from (nat_le a.first n) (nat_lt n (a.first + a.len)) (le-leb a.first n (omega (arith, some))) (lt-ltb n (a.first + a.len) (omega (arith, some))) in
    let there : has_number (all_numbers (xs ++ a ∷ [])) n ≡ true = ranges-have (xs ++ a ∷ []) n ∙ has-last xs a n in-last in
    let low = ltb-true n k (all-to (λ n. nat_lt n k) (all_numbers (xs ++ a ∷ [])) n below there) in
    omega (arith, some, low)

-- one range more, which neither meets the last nor begins below its end
pub apart-more :
    (xs : List RowRange) (a b : RowRange) → are_apart (xs ++ a ∷ []) ≡ true → are_below b.first (all_numbers (xs ++ a ∷ [])) ≡ true → 0 < b.len →
    (a.first + a.len ≡ b.first → ⊥) → are_apart ((xs ++ a ∷ []) ++ b ∷ []) ≡ true
apart-more xs a b h below some apart =
    let end = last-below xs a b.first h below in
    apart-behind xs a b (omega (arith, end, apart)) some h

-- the numbers of the ranges that begin below a number which is in none of them
pub ranges_below-below : (k : ℕ) (rs : List RowRange) → has_number (all_numbers rs) k ≡ false → are_below k (all_numbers (ranges_below k rs)) ≡ true
ranges_below-below k rs out =
    ap (are_below k) (sym (numbers-below k rs out))
    ∙ all-from (λ n. nat_lt n k) (filter (λ n. nat_lt n k) (all_numbers rs))
    (λ n at. (and_parts (nat_lt n k) (has_number (all_numbers rs) n) (sym (has-filter (λ n. nat_lt n k) (all_numbers rs) n) ∙ at)).0)

-- the same before a block of which the ranges have no number
pub none-from :
    (first n : ℕ) (rs : List RowRange) → 0 < n → find (λ m. has_number (all_numbers rs) m) (range_with_len first n) ≡ None →
    are_below first (all_numbers (ranges_below first rs)) ≡ true
none-from first n rs some free =
    ranges_below-below first rs
    (find-none (λ m. has_number (all_numbers rs) m) (range_with_len first n) free first (block-has first n first (omega arith) (omega (arith, some))))

or-from : (b c : Bool) → (b ≡ false → c ≡ true) → (b || c) ≡ true
or-from true c h = refl
or-from false c h = h refl

or-left : (b c : Bool) → (b || c) ≡ true → b ≡ false → c ≡ true
or-left true c h e = absurd (true≢false e)
or-left false c h e = h

begins-at : (first n : ℕ) (rs : List RowRange) (i : ℕ) (d : RowRange) → 0 < n → are_apart rs ≡ true → i < length rs →
    find (λ m. has_number (all_numbers rs) m) (range_with_len first n) ≡ None → first ≤ (get_or rs i d).first → first + n ≤ (get_or rs i d).first
begins-at first n rs i d some h within free le =
    let r : RowRange = get_or rs i d in
    let wide = some-at rs i d h within in
    let in-it : lies_in r.first r ≡ true = and_from (nat_le r.first r.first) (nat_lt r.first (r.first + r.len)) (le-leb r.first r.first (omega arith)) (lt-ltb r.first (r.first + r.len) (omega (arith, wide))) in
    let there : has_number (all_numbers rs) r.first ≡ true = ranges-have rs r.first ∙ list_any_at (λ q. lies_in r.first q) rs i d within in-it in
    ⊎_elim
    (λ (low : r.first < first + n). absurd (true≢false (sym there ∙ find-none (λ m. has_number (all_numbers rs) m) (range_with_len first n) free r.first (block-has first n r.first le low))))
    (λ (high : first + n ≤ r.first). high)
    (cases_lt r.first (first + n))

below-from-at :
    (first n : ℕ) (rs : List RowRange) (d : RowRange) → 0 < n → are_apart rs ≡ true → find (λ m. has_number (all_numbers rs) m) (range_with_len first n) ≡ None →
    are_below first (all_numbers (ranges_below first rs)) ≡ true → are_below_from first rs (all_numbers (ranges_below first rs) ++ range_with_len first n) ≡ true
below-from-at first n rs d some h free low =
    let base : List ℕ = all_numbers (ranges_below first rs) in
    let test : RowRange → Bool = λ r. nat_lt r.first first || are_below r.first (base ++ range_with_len first n) in
    list_all-from_AllPass test rs (All-from_get_or (λ r. test r ≡ true) rs d (λ i within.
    let r : RowRange = get_or rs i d in
    or-from (nat_lt r.first first) (are_below r.first (base ++ range_with_len first n)) (λ e.
    let from = ltb-false r.first first e in
    below-both r.first base (range_with_len first n) (below-more first r.first base from low)
    (block-below first n r.first (begins-at first n rs i d some h within free from)))))

-- a block of which the ranges have no number, behind those that begin below it, is below the others
pub below-from :
    (first n : ℕ) (rs : List RowRange) → 0 < n → are_apart rs ≡ true → find (λ m. has_number (all_numbers rs) m) (range_with_len first n) ≡ None →
    are_below first (all_numbers (ranges_below first rs)) ≡ true → are_below_from first rs (all_numbers (ranges_below first rs) ++ range_with_len first n) ≡ true
below-from first n [] some h free low = refl
below-from first n (r ∷ rs) some h free low = below-from-at first n (r ∷ rs) r some h free low

-- what is known at one of the ranges
pub below-at :
    (first : ℕ) (rs : List RowRange) (ns : List ℕ) (i : ℕ) (d : RowRange) → are_below_from first rs ns ≡ true → i < length rs →
    first ≤ (get_or rs i d).first → are_below (get_or rs i d).first ns ≡ true
below-at first rs ns i d h within le =
    let r : RowRange = get_or rs i d in
    let test : RowRange → Bool = λ r. nat_lt r.first first || are_below r.first ns in
    or-left (nat_lt r.first first) (are_below r.first ns) (All-get_or (λ r. test r ≡ true) rs i d within (AllPass-from_list_all test rs h))
    (le-ltb r.first first le)

-- the ranges once the last is longer, and once there is one more behind it
pub longer-last :
    (old new xs : List RowRange) (a b : RowRange) → old ≡ xs ++ a ∷ [] → new ≡ xs ++ b ∷ [] → a.first ≡ b.first → 0 < b.len →
    are_apart old ≡ true → are_apart new ≡ true
longer-last old new xs a b before after same some h =
    ap are_apart after ∙ apart-longer xs a b same some (ap are_apart (sym before) ∙ h)

pub one-behind :
    (old kept new xs : List RowRange) (a b : RowRange) → old ≡ xs ++ a ∷ [] → kept ≡ xs ++ a ∷ [] → new ≡ kept ++ b ∷ [] →
    are_below b.first (all_numbers old) ≡ true → 0 < b.len → (a.first + a.len ≡ b.first → ⊥) → are_apart old ≡ true → are_apart new ≡ true
one-behind old kept new xs a b before pushed after below some apart h =
    ap are_apart (after ∙ ap (λ rs. rs ++ b ∷ []) pushed)
    ∙ apart-more xs a b (ap are_apart (sym before) ∙ h) (ap (λ rs. are_below b.first (all_numbers rs)) (sym before) ∙ below) some apart

-- what is known of the range at an index
pub some-of : (rs : List RowRange) (i : ℕ) (r : RowRange) → are_apart rs ≡ true → i < length rs → r ≡ get_or rs i r → 0 < r.len
some-of rs i r h within at = subst (λ q. 0 < q.len) (sym at) (some-at rs i r h within)

pub earlier-of :
    (p : RowRange → Bool) (rs : List RowRange) (i : ℕ) (r : RowRange) (old ns : List ℕ) → are_apart rs ≡ true → i < length rs → r ≡ get_or rs i r →
    ns ≡ old ++ all_numbers (filter p (take i rs)) → are_below r.first old ≡ true → are_below r.first ns ≡ true
earlier-of p rs i r old ns h within at is below =
    ap (are_below r.first) is
    ∙ below-both r.first old (all_numbers (filter p (take i rs))) below
    (subst (λ q. are_below q.first (all_numbers (filter p (take i rs))) ≡ true) (sym at) (earlier-below p rs i r h within))

pub below-of :
    (first : ℕ) (rs : List RowRange) (ns : List ℕ) (i : ℕ) (r : RowRange) → are_below_from first rs ns ≡ true → i < length rs → r ≡ get_or rs i r →
    first ≤ r.first → are_below r.first ns ≡ true
below-of first rs ns i r h within at le =
    subst (λ q. are_below q.first ns ≡ true) (sym at)
    (below-at first rs ns i r h within (subst (λ q. first ≤ q.first) at le))
