-- How many numbers of a frame are deleted, and how many rows are left.
use Rattle.std.proofs.Common.{◌≡◌, ℕ, ◌+◌, Bool, true, false, cond, ◌∙◌, List, [], ◌∷◌, ◌++◌, map, filter, length, refl, ap, sym, arith}
use Rattle.std.specs.Prelude.{not, ◌||◌, ◌==◌, nat_lt, Some, None}
use Rattle.std.specs.List.{list_all, list_any}
use Rattle.std.proofs.lemmas.Bool.{and_parts, or_parts, ltb-true, eqb-true, eqb-false, eq-eqb, ne_eqb, false_from_ne_true, not-true, not-false, true≢false, false≢true}
use Rattle.std.proofs.lemmas.List.{length-map}
use Rattle.std.proofs.lemmas.List.Filters.{length-filter_both}
use Rattle.df_frame.specs.declared.state.FrameState.{FrameState}
use Rattle.df_frame.specs.Numbers.{has_number, is_rising}
use Rattle.df_frame.specs.Frames.{has_row, numbers_of, without_rows, IsNumbered}
use Rattle.df_frame.specs.Refusals.{doubled_number_after, first_not_live}
use Rattle.df_frame.proofs.Members.{has-here, has-later, has-append, has-filter, all-to, filter-none, find-none}

length-cond : (b : Bool) (x : ℕ) (xs : List ℕ) → length (cond b (x ∷ xs) xs) ≡ cond b 1 0 + length xs
length-cond true x xs = omega arith
length-cond false x xs = omega arith

one-of : (b c : Bool) → (b ≡ true → c ≡ false) → cond {A = ℕ} (b || c) 1 0 ≡ cond {A = ℕ} b 1 0 + cond {A = ℕ} c 1 0
one-of true true h = let e = h refl in cc
one-of true false h = refl
one-of false true h = refl
one-of false false h = refl

-- of two tests that no number of a list passes both, the numbers that pass one or the other
pub length-either :
    (p q : ℕ → Bool) (xs : List ℕ) → ((n : ℕ) → has_number xs n ≡ true → p n ≡ true → q n ≡ false) →
    length (filter (λ n. p n || q n) xs) ≡ length (filter p xs) + length (filter q xs)
length-either p q [] h = refl
length-either p q (x ∷ xs) h =
    let whole = length-cond (p x || q x) x (filter (λ n. p n || q n) xs) in
    let left = length-cond (p x) x (filter p xs) in
    let right = length-cond (q x) x (filter q xs) in
    let here = one-of (p x) (q x) (h x (has-here x xs)) in
    let rest = length-either p q xs (λ n m. h n (has-later x xs n m)) in
    omega (arith, whole, left, right, here, rest)

not-itself : (x n : ℕ) (xs : List ℕ) → list_all (λ m. nat_lt x m) xs ≡ true → has_number xs n ≡ true → (x == n) ≡ false
not-itself x n xs h m =
    let above = ltb-true x n (all-to (λ m. nat_lt x m) xs n h m) in
    ne_eqb x n (λ e. absurd (omega (arith, above, e)))

once-at :
    (n x : ℕ) (xs : List ℕ) (b : Bool) → (x == n) ≡ b → list_all (λ m. nat_lt x m) xs ≡ true → (b || has_number xs n) ≡ true →
    (has_number xs n ≡ true → length (filter (λ m. n == m) xs) ≡ 1) → length (filter (λ m. n == m) (x ∷ xs)) ≡ 1
once-at n x xs true e h m later =
    let same : x ≡ n = eqb-true x n e in
    let here : (n == x) ≡ true = eq-eqb n x (sym same) in
    let none : filter (λ m. n == m) xs ≡ [] = filter-none (λ m. n == m) xs (λ k l. ap (λ z. z == k) (sym same) ∙ not-itself x k xs h l) in
    ap (λ b. length (cond b (x ∷ filter (λ m. n == m) xs) (filter (λ m. n == m) xs))) here ∙ ap (λ ys. length (x ∷ ys)) none
once-at n x xs false e h m later =
    let other : (n == x) ≡ false = ne_eqb n x (λ s. eqb-false x n e (sym s)) in
    ap (λ b. length (cond b (x ∷ filter (λ m. n == m) xs) (filter (λ m. n == m) xs))) other ∙ later m

-- a number of a list that rises is there once
pub once : (n : ℕ) (xs : List ℕ) → is_rising xs ≡ true → has_number xs n ≡ true → length (filter (λ m. n == m) xs) ≡ 1
once n [] h m = absurd (false≢true m)
once n (x ∷ xs) h m =
    let parts = and_parts (list_all (λ m. nat_lt x m) xs) (is_rising xs) h in
    once-at n x xs (x == n) refl parts.0 m (λ k. once n xs parts.1 k)

first_doubled_number-at :
    (seen : List ℕ) (n : ℕ) (ns : List ℕ) (b : Bool) → has_number seen n ≡ b → cond b (Some n) (doubled_number_after (seen ++ n ∷ []) ns) ≡ None →
    (b ≡ false) × (doubled_number_after (seen ++ n ∷ []) ns ≡ None)
first_doubled_number-at seen n ns true e h = cc
first_doubled_number-at seen n ns false e h = (refl, h)

apart-at :
    (seen : List ℕ) (n m : ℕ) (ns : List ℕ) (b : Bool) → (n == m) ≡ b → has_number seen n ≡ false → (b || has_number ns m) ≡ true →
    (has_number ns m ≡ true → has_number (seen ++ n ∷ []) m ≡ false) → has_number seen m ≡ false
apart-at seen n m ns true e h k later = ap (has_number seen) (sym (eqb-true n m e)) ∙ h
apart-at seen n m ns false e h k later =
    (or_parts (has_number seen m) (has_number (n ∷ []) m) (sym (has-append seen (n ∷ []) m) ∙ later k)).0

-- no number of a list of which none is doubled was seen
pub not-seen : (seen ns : List ℕ) → doubled_number_after seen ns ≡ None → (m : ℕ) → has_number ns m ≡ true → has_number seen m ≡ false
not-seen seen [] h m k = absurd (false≢true k)
not-seen seen (n ∷ ns) h m k =
    let here = first_doubled_number-at seen n ns (has_number seen n) refl h in
    apart-at seen n m ns (n == m) refl here.0 k (λ l. not-seen (seen ++ n ∷ []) ns here.1 m l)

-- the first number of such a list does not stand in the rest
pub not-again : (seen : List ℕ) (n : ℕ) (ns : List ℕ) → doubled_number_after seen (n ∷ ns) ≡ None → has_number ns n ≡ false
not-again seen n ns h =
    let here = first_doubled_number-at seen n ns (has_number seen n) refl h in
    false_from_ne_true (has_number ns n) (λ m.
    let twice : has_number (seen ++ n ∷ []) n ≡ false = not-seen (seen ++ n ∷ []) ns here.1 n m in
    let out = (or_parts (has_number seen n) (has_number (n ∷ []) n) (sym (has-append seen (n ∷ []) n) ∙ twice)).1 in
    true≢false (sym (has-here n []) ∙ out))

-- distinct numbers of a list that rises are as many there
pub as-many : (seen ns xs : List ℕ) → is_rising xs ≡ true → doubled_number_after seen ns ≡ None → ((n : ℕ) → has_number ns n ≡ true → has_number xs n ≡ true) →
    length (filter (λ n. has_number ns n) xs) ≡ length ns
as-many seen [] xs h d within = ap length (filter-none (λ n. false) xs (λ n m. refl))
as-many seen (n ∷ ns) xs h d within =
    let here = first_doubled_number-at seen n ns (has_number seen n) refl d in
    let both = length-either (λ m. n == m) (λ m. has_number ns m) xs (λ m k e. ap (has_number ns) (sym (eqb-true n m e)) ∙ not-again seen n ns d) in
    let one = once n xs h (within n (has-here n ns)) in
    let rest = as-many (seen ++ n ∷ []) ns xs h here.1 (λ m k. within m (has-later n ns m k)) in
    omega (arith, both, one, rest)

-- a row's number is among the numbers
pub has-numbers : {T : Type 0} (rows : List (ℕ × T)) (n : ℕ) → list_any (λ r. r.0 == n) rows ≡ has_number (map (λ r. r.0) rows) n
has-numbers [] n = refl
has-numbers (r ∷ rows) n = ap (λ b. (r.0 == n) || b) (has-numbers rows n)

-- numbers that are live are accepted, and not deleted
pub live-accepted :
    (f : FrameState) (ns : List ℕ) → IsNumbered f → first_not_live f ns ≡ None → (n : ℕ) → has_number ns n ≡ true →
    (has_number f.accepted n ≡ true) × (has_number f.deleted n ≡ false)
live-accepted f ns h live n m =
    let row : has_number (numbers_of f) n ≡ true = sym (has-numbers f.rows n) ∙ not-false (has_row f n) (find-none (λ n. not (has_row f n)) ns live n m) in
    let parts = and_parts (not (has_number f.deleted n)) (has_number f.accepted n)
    (sym (has-filter (λ n. not (has_number f.deleted n)) f.accepted n) ∙ (ap (λ ns. has_number ns n) (sym h.left) ∙ row)) in
    (parts.1, not-true (has_number f.deleted n) parts.0)

-- the book of the deleted numbers grows by as many as are listed
pub deleted-more :
    (f : FrameState) (ns : List ℕ) → IsNumbered f → doubled_number_after [] ns ≡ None → first_not_live f ns ≡ None →
    length (without_rows ns f).deleted ≡ length f.deleted + length ns
deleted-more f ns h once live =
    let known = live-accepted f ns h live in
    let was : ℕ → Bool = λ n. has_number f.deleted n in
    let listed : ℕ → Bool = λ n. has_number ns n in
    length-either was listed f.accepted (λ n m d. false_from_ne_true (has_number ns n) (λ l. true≢false (sym d ∙ (known n l).1)))
    ∙ (ap (λ ds. length ds + length (filter listed f.accepted)) h.deleted
    ∙ ap (λ k. length f.deleted + k) (as-many [] ns f.accepted h.rising once (λ n l. (known n l).0)))

-- the rows of a sound frame are its accepted numbers less the deleted ones
pub live-left : (f : FrameState) → IsNumbered f → length f.deleted + length f.rows ≡ length f.accepted
live-left f h =
    let was : ℕ → Bool = λ n. has_number f.deleted n in
    let both = length-filter_both was (λ n. not (was n)) (λ _. refl) f.accepted in
    let gone = ap length h.deleted in
    let left = ap length h.left in
    let rows = length-map f.rows (λ r. r.0) in
    omega (arith, both, gone, left, rows)
