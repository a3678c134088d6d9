-- Lists of numbers that rise, and blocks that are put into them.
use Rattle.std.proofs.Common.{◌≡◌, ℕ, ◌+◌, ◌<◌, ◌≤◌, Bool, true, false, zero, suc, cond, ◌∙◌, List, [], ◌∷◌, ◌++◌, map, filter, length, ⊎_elim, refl, ap, sym, arith, length-append}
use Rattle.std.specs.Prelude.{not, ◌&&◌, ◌||◌, ◌==◌, nat_lt}
use Rattle.std.specs.List.{list_all, range_with_len}
use Rattle.std.proofs.lemmas.Bool.{and_parts, and_from, or_cases, cases_lt, eqb-true, eqb-false, lt-ltb, le-ltb, ltb-true, ltb-false, not-true, false≢true}
use Rattle.std.proofs.lemmas.List.{map-append}
use Rattle.std.proofs.lemmas.List.Elements.{filter-append}
use Rattle.std.proofs.lemmas.List.Filters.{length-filter_both}
use Rattle.std.proofs.lemmas.List.Folds.{list_all-append}
use Rattle.df_frame.specs.Numbers.{are_below, has_number, is_rising, put_from}
use Rattle.df_frame.proofs.Members.{has-here, has-later, has-append, has-filter, all-from, all-to, filter-same, filter-none, filter-filter}

all-cond : {T : Type 0} (q : T → Bool) (b : Bool) (x : T) (xs : List T) → q x ≡ true → list_all q xs ≡ true → list_all q (cond b (x ∷ xs) xs) ≡ true
all-cond q true x xs e r = and_from (q x) (list_all q xs) e r
all-cond q false x xs e r = r

-- what all pass, those that a filter keeps pass
pub all-filter : {T : Type 0} (q p : T → Bool) (xs : List T) → list_all q xs ≡ true → list_all q (filter p xs) ≡ true
all-filter q p [] h = refl
all-filter q p (x ∷ xs) h =
    let parts = and_parts (q x) (list_all q xs) h in
    all-cond q (p x) x (filter p xs) parts.0 (all-filter q p xs parts.1)

rising-cond : (b : Bool) (x : ℕ) (xs : List ℕ) → list_all (λ m. nat_lt x m) xs ≡ true → is_rising xs ≡ true → is_rising (cond b (x ∷ xs) xs) ≡ true
rising-cond true x xs e r = and_from (list_all (λ m. nat_lt x m) xs) (is_rising xs) e r
rising-cond false x xs e r = r

-- what a filter keeps rises
pub rising-filter : (p : ℕ → Bool) (xs : List ℕ) → is_rising xs ≡ true → is_rising (filter p xs) ≡ true
rising-filter p [] h = refl
rising-filter p (x ∷ xs) h =
    let parts = and_parts (list_all (λ m. nat_lt x m) xs) (is_rising xs) h in
    rising-cond (p x) x (filter p xs) (all-filter (λ m. nat_lt x m) p xs parts.0) (rising-filter p xs parts.1)

-- two lists that rise, the second above the first
pub rising-append :
    (xs ys : List ℕ) → is_rising xs ≡ true → is_rising ys ≡ true →
    ((x : ℕ) → has_number xs x ≡ true → list_all (λ m. nat_lt x m) ys ≡ true) → is_rising (xs ++ ys) ≡ true
rising-append [] ys h k above = k
rising-append (x ∷ xs) ys h k above =
    let parts = and_parts (list_all (λ m. nat_lt x m) xs) (is_rising xs) h in
    and_from (list_all (λ m. nat_lt x m) (xs ++ ys)) (is_rising (xs ++ ys))
    (list_all-append (λ m. nat_lt x m) xs ys ∙ and_from (list_all (λ m. nat_lt x m) xs) (list_all (λ m. nat_lt x m) ys) parts.0 (above x (has-here x xs)))
    (rising-append xs ys parts.1 k (λ y m. above y (has-later x xs y m)))

in-block :
    (first n m : ℕ) (b : Bool) → (first == m) ≡ b → (b || has_number (range_with_len (first + 1) n) m) ≡ true →
    (has_number (range_with_len (first + 1) n) m ≡ true → (first + 1 ≤ m) × (m < (first + 1) + n)) → (first ≤ m) × (m < first + suc n)
in-block first n m true e h later = let same : first ≡ m = eqb-true first m e in (omega (arith, same), omega (arith, same))
in-block first n m false e h later = let k = later h in (omega (arith, k.0), omega (arith, k.1))

-- a block has the numbers from its first on, as many as it is long
pub has-block : (first n m : ℕ) → has_number (range_with_len first n) m ≡ true → (first ≤ m) × (m < first + n)
has-block first zero m h = absurd (false≢true h)
has-block first (suc n) m h = in-block first n m (first == m) refl h (λ k. has-block (first + 1) n m k)

block-at :
    (first n m : ℕ) (b : Bool) → (first == m) ≡ b → first ≤ m →
    (first + 1 ≤ m → has_number (range_with_len (first + 1) n) m ≡ true) → (b || has_number (range_with_len (first + 1) n) m) ≡ true
block-at first n m true e h later = refl
block-at first n m false e h later = let other = eqb-false first m e in later (grind (arith, other))

pub block-has : (first n m : ℕ) → first ≤ m → m < first + n → has_number (range_with_len first n) m ≡ true
block-has first zero m h k = absurd (omega arith)
block-has first (suc n) m h k = block-at first n m (first == m) refl h (λ l. block-has (first + 1) n m l (omega arith))

pub rising-block : (first n : ℕ) → is_rising (range_with_len first n) ≡ true
rising-block first zero = refl
rising-block first (suc n) =
    and_from (list_all (λ m. nat_lt first m) (range_with_len (first + 1) n)) (is_rising (range_with_len (first + 1) n))
    (all-from (λ m. nat_lt first m) (range_with_len (first + 1) n) (λ m h. let k = has-block (first + 1) n m h in lt-ltb first m (omega (arith, k.0))))
    (rising-block (first + 1) n)

-- the numbers of a block are below what is not below its end
pub block-below : (first n k : ℕ) → first + n ≤ k → are_below k (range_with_len first n) ≡ true
block-below first n k le =
    all-from (λ m. nat_lt m k) (range_with_len first n) (λ m at. let h = has-block first n m at in lt-ltb m k (omega (arith, h.1, le)))

pub below-both : (k : ℕ) (xs ys : List ℕ) → are_below k xs ≡ true → are_below k ys ≡ true → are_below k (xs ++ ys) ≡ true
below-both k xs ys h g = list_all-append (λ n. nat_lt n k) xs ys ∙ and_from (are_below k xs) (are_below k ys) h g

no-more-below : (k x n : ℕ) (xs : List ℕ) → nat_lt x k ≡ false → list_all (λ m. nat_lt x m) xs ≡ true → has_number xs n ≡ true → nat_lt n k ≡ false
no-more-below k x n xs e h m =
    let above = ltb-true x n (all-to (λ m. nat_lt x m) xs n h m) in
    let from = ltb-false x k e in
    le-ltb n k (omega (arith, above, from))

parts-at :
    (k x : ℕ) (xs : List ℕ) (b : Bool) → nat_lt x k ≡ b → list_all (λ m. nat_lt x m) xs ≡ true →
    filter (λ n. nat_lt n k) xs ++ filter (λ n. not (nat_lt n k)) xs ≡ xs →
    cond b (x ∷ filter (λ n. nat_lt n k) xs) (filter (λ n. nat_lt n k) xs) ++ cond (not b) (x ∷ filter (λ n. not (nat_lt n k)) xs) (filter (λ n. not (nat_lt n k)) xs) ≡ x ∷ xs
parts-at k x xs true e h r = ap (λ ys. x ∷ ys) r
parts-at k x xs false e h r =
    let none : filter (λ n. nat_lt n k) xs ≡ [] = filter-none (λ n. nat_lt n k) xs (λ n m. no-more-below k x n xs e h m) in
    let rest : filter (λ n. not (nat_lt n k)) xs ≡ xs = ap (λ ys. ys ++ filter (λ n. not (nat_lt n k)) xs) (sym none) ∙ r in
    ap (λ ys. ys ++ x ∷ filter (λ n. not (nat_lt n k)) xs) none ∙ ap (λ ys. x ∷ ys) rest

-- a list that rises is what lies below a number, and then the others
pub parts-rising : (k : ℕ) (xs : List ℕ) → is_rising xs ≡ true → filter (λ n. nat_lt n k) xs ++ filter (λ n. not (nat_lt n k)) xs ≡ xs
parts-rising k [] h = refl
parts-rising k (x ∷ xs) h =
    let parts = and_parts (list_all (λ m. nat_lt x m) xs) (is_rising xs) h in
    parts-at k x xs (nat_lt x k) refl parts.0 (parts-rising k xs parts.1)

and-swap : (a b : Bool) → (a && b) ≡ (b && a)
and-swap true true = refl
and-swap true false = refl
and-swap false true = refl
and-swap false false = refl

-- two filters in either order
pub filter-swap : (p q : ℕ → Bool) (xs : List ℕ) → filter p (filter q xs) ≡ filter q (filter p xs)
filter-swap p q xs =
    filter-filter p q xs
    ∙ (filter-same (λ x. p x && q x) (λ x. q x && p x) xs (λ n m. and-swap (p n) (q n))
    ∙ sym (filter-filter q p xs))

map-cond : {S T : Type 0} (f : S → T) (b : Bool) (x : S) (xs : List S) → map f (cond b (x ∷ xs) xs) ≡ cond b (f x ∷ map f xs) (map f xs)
map-cond f true x xs = refl
map-cond f false x xs = refl

-- the numbers of the items whose numbers pass
pub map-filter : {T : Type 0} (number : T → ℕ) (p : ℕ → Bool) (xs : List T) → map number (filter (λ x. p (number x)) xs) ≡ filter p (map number xs)
map-filter number p [] = refl
map-filter number p (x ∷ xs) =
    map-cond number (p (number x)) x (filter (λ x. p (number x)) xs)
    ∙ ap (λ ys. cond (p (number x)) (number x ∷ ys) ys) (map-filter number p xs)

no-both : (b : Bool) → b ≡ true → b ≡ false → ⊥
no-both b t f = cc

at-or-above : (first n x k : ℕ) → first ≤ k → x < first + n → (k < first + n → ⊥) → nat_lt x k ≡ true
at-or-above first n x k from inside past =
    ⊎_elim (λ (h : k < first + n). absurd (past h)) (λ (h : first + n ≤ k). lt-ltb x k (omega (arith, inside, h))) (cases_lt k (first + n))

-- a number of the list that is not below a block, nor in it, is above each of its numbers
above-block :
    (first n x k : ℕ) (xs : List ℕ) → ((m : ℕ) → has_number (range_with_len first n) m ≡ true → has_number xs m ≡ false) →
    has_number (range_with_len first n) x ≡ true → has_number (filter (λ n. not (nat_lt n first)) xs) k ≡ true → nat_lt x k ≡ true
above-block first n x k xs free m l =
    let parts = and_parts (not (nat_lt k first)) (has_number xs k) (sym (has-filter (λ n. not (nat_lt n first)) xs k) ∙ l) in
    let from : first ≤ k = ltb-false k first (not-true (nat_lt k first) parts.0) in
    let inside = has-block first n x m in
    at-or-above first n x k from inside.1 (λ low. no-both (has_number xs k) parts.1 (free k (block-has first n k from low)))

-- a number below the block is below all that follows
above-lower :
    (first n x k : ℕ) (xs : List ℕ) → has_number (filter (λ n. nat_lt n first) xs) x ≡ true →
    has_number (range_with_len first n ++ filter (λ n. not (nat_lt n first)) xs) k ≡ true → nat_lt x k ≡ true
above-lower first n x k xs m l =
    let low = ltb-true x first (and_parts (nat_lt x first) (has_number xs x) (sym (has-filter (λ n. nat_lt n first) xs x) ∙ m)).0 in
    let upper = filter (λ n. not (nat_lt n first)) xs in
    ⊎_elim
    (λ (h : has_number (range_with_len first n) k ≡ true). let inside = has-block first n k h in lt-ltb x k (omega (arith, low, inside.0)))
    (λ (h : has_number upper k ≡ true).
    let parts = and_parts (not (nat_lt k first)) (has_number xs k) (sym (has-filter (λ n. not (nat_lt n first)) xs k) ∙ h) in
    let from = ltb-false k first (not-true (nat_lt k first) parts.0) in
    lt-ltb x k (omega (arith, low, from)))
    (or_cases (has_number (range_with_len first n) k) (has_number upper k) (sym (has-append (range_with_len first n) upper k) ∙ l))

-- a filter of a block put into a list
pub filter-put : (q : ℕ → Bool) (first : ℕ) (block xs : List ℕ) → filter q (put_from (λ n. n) first block xs) ≡ put_from (λ n. n) first (filter q block) (filter q xs)
filter-put q first block xs =
    let lower = filter (λ n. nat_lt n first) xs in
    let upper = filter (λ n. not (nat_lt n first)) xs in
    filter-append q lower (block ++ upper)
    ∙ (ap (λ ys. filter q lower ++ ys) (filter-append q block upper)
    ∙ (ap (λ ys. ys ++ (filter q block ++ filter q upper)) (filter-swap q (λ n. nat_lt n first) xs)
    ∙ ap (λ ys. filter (λ n. nat_lt n first) (filter q xs) ++ (filter q block ++ ys)) (filter-swap q (λ n. not (nat_lt n first)) xs)))

-- nothing put into a list that rises
pub put-nothing : (first : ℕ) (xs : List ℕ) → is_rising xs ≡ true → put_from (λ n. n) first [] xs ≡ xs
put-nothing first xs h = parts-rising first xs h

-- the numbers of a block of items put among items
pub map-put : {T : Type 0} (number : T → ℕ) (first : ℕ) (block xs : List T) → map number (put_from number first block xs) ≡ put_from (λ n. n) first (map number block) (map number xs)
map-put number first block xs =
    let lower = filter (λ x. nat_lt (number x) first) xs in
    let upper = filter (λ x. not (nat_lt (number x) first)) xs in
    map-append number lower (block ++ upper)
    ∙ (ap (λ ys. map number lower ++ ys) (map-append number block upper)
    ∙ (ap (λ ys. ys ++ (map number block ++ map number upper)) (map-filter number (λ n. nat_lt n first) xs)
    ∙ ap (λ ys. filter (λ n. nat_lt n first) (map number xs) ++ (map number block ++ ys)) (map-filter number (λ n. not (nat_lt n first)) xs)))

-- a block put into a list that has none of its numbers rises
pub rising-put :
    (first n : ℕ) (xs : List ℕ) → is_rising xs ≡ true → ((m : ℕ) → has_number (range_with_len first n) m ≡ true → has_number xs m ≡ false) →
    is_rising (put_from (λ n. n) first (range_with_len first n) xs) ≡ true
rising-put first n xs h free =
    let lower = filter (λ n. nat_lt n first) xs in
    let upper = filter (λ n. not (nat_lt n first)) xs in
    let block = range_with_len first n in
    rising-append lower (block ++ upper) (rising-filter (λ n. nat_lt n first) xs h)
    (rising-append block upper (rising-block first n) (rising-filter (λ n. not (nat_lt n first)) xs h) (λ x m. all-from (λ k. nat_lt x k) upper (λ k l. above-block first n x k xs free m l)))
    (λ x m. all-from (λ k. nat_lt x k) (block ++ upper) (λ k l. above-lower first n x k xs m l))

-- how long a list with a block is
pub length-put : {T : Type 0} (number : T → ℕ) (first : ℕ) (block xs : List T) → length (put_from number first block xs) ≡ length xs + length block
length-put number first block xs =
    let lower = filter (λ x. nat_lt (number x) first) xs in
    let upper = filter (λ x. not (nat_lt (number x) first)) xs in
    let both : length lower + length upper ≡ length xs = length-filter_both (λ x. nat_lt (number x) first) (λ x. not (nat_lt (number x) first)) (λ _. refl) xs in
    let whole = length-append lower (block ++ upper) in
    let rest = length-append block upper in
    omega arith
