-- Least ranks: none is below the dense one, the least cell has the rank 1, and each next cell's counts the equal ones.
use Rattle.std.proofs.Common.{◌≡◌, ◌≢◌, ℕ, ◌+◌, ◌≤◌, ◌∙◌, Bool, true, false, cond, zero, suc, List, [], ◌∷◌, ◌++◌, length, map, filter, refl, ap, sym, arith, add-zero, Contains, Option}
use Rattle.std.specs.Prelude.{not, ◌&&◌}
use Rattle.std.specs.List.{list_any}
use Rattle.std.specs.Ordering.{is_lt, ordering_reverse}
use Rattle.std.specs.declared.cmp.Ordering.{Ordering}
use Rattle.std.specs.declared.cmp.Ordering.TheVariants as ordering
use Rattle.std.proofs.lemmas.Bool.{false≢true}
use Rattle.std.proofs.lemmas.List.{length-append}
use Rattle.std.proofs.lemmas.List.Elements.{filter-append}
use Rattle.df_value.specs.declared.cell.Cell.{Cell}
use Rattle.df_value.specs.CellEq.{cell_eq, cell_eq-Decides}
use Rattle.df_value.specs.CellOrder.{cell_cmp, cell_cmp_total}
use Rattle.df_value.specs.CellOrders.{exact, to_itself}
use Rattle.df_value.specs.Choices.{either}
use Rattle.df_value.specs.Rows.{cell_at, row_eq}
use Rattle.df_expr.specs.Value.{is_null}
use Rattle.df_ops.specs.Groups.{distinct_after, key_of}
use Rattle.df_ops.specs.Ranks.{count_below, count_equal, is_below, is_smaller, min_rank, AtLeastDense, EachIsRanked, HasRank, LeastIsOne, NextAddsEqual, RanksAgree}
use Rattle.df_ops.proofs.MinMaxFacts.{less}
use Rattle.df_ops.proofs.RankLaws.{both_of, each_ranked, first_cell, has_number, numbered, ranked, second_of, IsRankOf}

abbrev Rows : Type 0
Rows = List (List Cell)

abbrev number : Option ℕ → Rows → Cell → ℕ
number index rows c = 1 + count_below index rows c

own :
    (index : Option ℕ) (rows : Rows) (i : ℕ) (c : Cell) (n : ℕ) → HasRank index rows (min_rank index rows) i c n → IsRankOf (number index rows) index rows c n
own index rows = numbered (number index rows) index rows

pub min_ranked : (index : Option ℕ) (rows : Rows) → EachIsRanked index rows (min_rank index rows)
min_ranked index rows = each_ranked (number index rows) index rows (λ c. omega arith)

pub agree : (index : Option ℕ) (rows : Rows) → RanksAgree index rows (min_rank index rows)
agree index rows i j c n m h k = sym (own index rows i c n h).4 ∙ (own index rows j c m k).4

length_if : {A B : Type 0} (b : Bool) (x : A) (y : B) (xs : List A) (ys : List B) → length xs ≡ length ys → length (cond b (x ∷ xs) xs) ≡ length (cond b (y ∷ ys) ys)
length_if true x y xs ys h = omega arith
length_if false x y xs ys h = h

-- what is taken of values is as much as is taken of what they are values of
filter_values : {A B : Type 0} (p : B → Bool) (f : A → B) (xs : List A) → length (filter p (map f xs)) ≡ length (filter (λ x. p (f x)) xs)
filter_values p f [] = refl
filter_values p f (x ∷ xs) = length_if (p (f x)) (f x) x (filter p (map f xs)) (filter (λ y. p (f y)) xs) (filter_values p f xs)

no_less : (b : Bool) (x : List Cell) (xs : Rows) → length xs ≤ length (cond b (x ∷ xs) xs)
no_less true x xs = omega arith
no_less false x xs = omega arith

pushed : (b : Bool) (x : List Cell) (xs : Rows) → length (cond b (x ∷ []) []) + length xs ≡ length (cond b (x ∷ xs) xs)
pushed true x xs = omega arith
pushed false x xs = omega arith

-- of distinct ones no more are taken than of all
fewer_distinct : (p : List Cell → Bool) (seen rs : Rows) → length (filter p (distinct_after seen rs)) ≤ length (filter p seen) + length (filter p rs)
fewer_distinct p seen [] = omega arith
fewer_distinct p seen (r ∷ rs) =
    either (λ (l : Rows). length (filter p l) ≤ length (filter p seen) + length (filter p (r ∷ rs))) (list_any (row_eq r) seen) _ _
    (let rest = fewer_distinct p seen rs in
    let more = no_less (p r) r (filter p rs) in
    omega arith)
    (let rest = fewer_distinct p (seen ++ r ∷ []) rs in
    let split : length (filter p (seen ++ r ∷ [])) ≡ length (filter p seen) + length (cond (p r) (r ∷ []) []) =
    ap length (filter-append p seen (r ∷ [])) ∙ length-append (filter p seen) (cond (p r) (r ∷ []) []) in
    let joined = pushed (p r) r (filter p rs) in
    omega arith)

pub at_least : (index : Option ℕ) (rows : Rows) → AtLeastDense index rows (min_rank index rows)
at_least index rows i c n m h k =
    let dense = (ranked index rows i c n h).4 in
    let all = (own index rows i c m k).4 in
    let fewer = fewer_distinct (is_smaller c) [] (map (key_of (index ∷ [])) rows) in
    let same : length (filter (is_smaller c) (map (key_of (index ∷ [])) rows)) ≡ count_below index rows c = filter_values (is_smaller c) (key_of (index ∷ [])) rows in
    omega arith

-- where none is taken of any row that stands there, none is taken
none_taken : (p : List Cell → Bool) (xs : Rows) → ((x : List Cell) → Contains xs x → p x ≡ false) → length (filter p xs) ≡ 0
none_taken p [] h = refl
none_taken p (x ∷ xs) h =
    ap (λ b. length (cond b (x ∷ filter p xs) (filter p xs))) (h x (zero, omega arith, refl))
    ∙ none_taken p xs (λ y at. h y (suc at.0, omega arith, at.2))

-- a test that does not pass
not_passed : (b : Bool) → (b ≡ true → ⊥) → b ≡ false
not_passed true h = absurd (h refl)
not_passed false h = refl

pub least : (index : Option ℕ) (rows : Rows) → LeastIsOne index rows (min_rank index rows)
least index rows i a n h lowest =
    let none = none_taken (λ r. is_below a (cell_at index r)) rows (λ s at. not_passed (is_below a (cell_at index s)) (λ e.
    let c = cell_at index s in
    lowest at.0 c (number index rows c) (has_number (number index rows) index rows s at (first_cell (not (is_null c)) (is_lt (cell_cmp c a)) e))
    (less (cell_cmp c a) (second_of (not (is_null c)) (is_lt (cell_cmp c a)) e)))) in
    let mine = (own index rows i a n h).4 in
    omega arith

-- p takes what q takes and what e takes, which are never the same
abbrev Splits : Bool → Bool → Bool → Type 0
Splits p q e = (m : ℕ) → cond p (m + 1) m ≡ cond q (m + 1) m + cond e 1 0

length_cond : (b : Bool) (x : List Cell) (xs : Rows) → length (cond b (x ∷ xs) xs) ≡ cond b (length xs + 1) (length xs)
length_cond true x xs = omega arith
length_cond false x xs = refl

added : (q e : Bool) (m n : ℕ) → cond q (m + n + 1) (m + n) + cond e 1 0 ≡ cond q (m + 1) m + cond e (n + 1) n
added true true m n = omega arith
added true false m n = omega arith
added false true m n = omega arith
added false false m n = omega arith

split_length :
    (p q e : List Cell → Bool) (xs : Rows) → ((x : List Cell) → Contains xs x → Splits (p x) (q x) (e x)) →
    length (filter p xs) ≡ length (filter q xs) + length (filter e xs)
split_length p q e [] h = refl
split_length p q e (x ∷ xs) h =
    let rest = split_length p q e xs (λ y at. h y (suc at.0, omega arith, at.2)) in
    let ps = length_cond (p x) x (filter p xs) in
    let qs = length_cond (q x) x (filter q xs) in
    let es = length_cond (e x) x (filter e xs) in
    let here = h x (zero, omega arith, refl) (length (filter q xs) + length (filter e xs)) in
    let sum = added (q x) (e x) (length (filter q xs)) (length (filter e xs)) in
    ps
    ∙ (ap (λ m. cond (p x) (m + 1) m) rest
    ∙ (here ∙ (sum ∙ (ap (λ m. m + cond (e x) (length (filter e xs) + 1) (length (filter e xs))) (sym qs) ∙ ap (λ m. length (filter q (x ∷ xs)) + m) (sym es)))))

splits_null : (p q e : Bool) → p ≡ false → q ≡ false → e ≡ false → Splits p q e
splits_null p q e f g h m = ap (λ b. cond b (m + 1) m) f ∙ (sym (add-zero m) ∙ (ap (λ b. cond b (m + 1) m + 0) (sym g) ∙ ap (λ b. cond q (m + 1) m + cond b 1 0) (sym h)))

splits_below : (p q e : Bool) → p ≡ true → q ≡ true → e ≡ false → Splits p q e
splits_below p q e f g h m = ap (λ b. cond b (m + 1) m) f ∙ (sym (add-zero (m + 1)) ∙ (ap (λ b. cond b (m + 1) m + 0) (sym g) ∙ ap (λ b. cond q (m + 1) m + cond b 1 0) (sym h)))

splits_equal : (p q e : Bool) → p ≡ true → q ≡ false → e ≡ true → Splits p q e
splits_equal p q e f g h m = ap (λ b. cond b (m + 1) m) f ∙ (ap (λ b. cond b (m + 1) m + 1) (sym g) ∙ ap (λ b. cond q (m + 1) m + cond b 1 0) (sym h))

and_false : (a : Bool) (b : Bool) → b ≡ false → (a && b) ≡ false
and_false true b h = h
and_false false b h = refl

false_and : (a b : Bool) → a ≡ false → (a && b) ≡ false
false_and true b h = cc
false_and false b h = refl

not_lt : (o : Ordering) → o ≢ ordering.Less → is_lt o ≡ false
not_lt ordering.Less h = absurd (h refl)
not_lt ordering.Equal h = refl
not_lt ordering.Greater h = refl

unlike : (a c : Cell) → cell_cmp c a ≢ ordering.Equal → cell_eq c a ≡ false
unlike a c h = not_passed (cell_eq c a) (λ e. h (ap (λ z. cell_cmp z a) ((cell_eq-Decides c a).0 e) ∙ to_itself a))

-- a cell that is not null, beside two of which a is the smaller
splits_at :
    (a b c : Cell) (o : Ordering) → cell_cmp c a ≡ o → not (is_null c) ≡ true → cell_cmp a b ≡ ordering.Less →
    (cell_cmp a c ≡ ordering.Less → cell_cmp c b ≢ ordering.Less) → Splits (is_below b c) (is_below a c) (cell_eq c a)
splits_at a b c ordering.Less is there below between =
    splits_below (is_below b c) (is_below a c) (cell_eq c a)
    (both_of (not (is_null c)) (is_lt (cell_cmp c b)) there (ap is_lt (cell_cmp_total.trans c a b is below)))
    (both_of (not (is_null c)) (is_lt (cell_cmp c a)) there (ap is_lt is))
    (unlike a c (λ e. let no : ordering.Less ≡ ordering.Equal = sym is ∙ e in cc))
splits_at a b c ordering.Equal is there below between =
    let same : c ≡ a = exact c a is in
    splits_equal (is_below b c) (is_below a c) (cell_eq c a)
    (both_of (not (is_null c)) (is_lt (cell_cmp c b)) there (ap is_lt (ap (λ z. cell_cmp z b) same ∙ below)))
    (and_false (not (is_null c)) (is_lt (cell_cmp c a)) (ap is_lt is))
    ((cell_eq-Decides c a).1 same)
splits_at a b c ordering.Greater is there below between =
    let above : cell_cmp a c ≡ ordering.Less = cell_cmp_total.antisymm a c ∙ ap ordering_reverse is in
    splits_null (is_below b c) (is_below a c) (cell_eq c a)
    (and_false (not (is_null c)) (is_lt (cell_cmp c b)) (not_lt (cell_cmp c b) (between above)))
    (and_false (not (is_null c)) (is_lt (cell_cmp c a)) (ap is_lt is))
    (unlike a c (λ e. let no : ordering.Greater ≡ ordering.Equal = sym is ∙ e in cc))

splits_cell :
    (a b c : Cell) (t : Bool) → not (is_null c) ≡ t → not (is_null a) ≡ true → cell_cmp a b ≡ ordering.Less →
    (not (is_null c) ≡ true → cell_cmp a c ≡ ordering.Less → cell_cmp c b ≢ ordering.Less) → Splits (is_below b c) (is_below a c) (cell_eq c a)
splits_cell a b c true e there below between = splits_at a b c (cell_cmp c a) refl e below (between e)
splits_cell a b c false e there below between =
    splits_null (is_below b c) (is_below a c) (cell_eq c a)
    (false_and (not (is_null c)) (is_lt (cell_cmp c b)) e) (false_and (not (is_null c)) (is_lt (cell_cmp c a)) e)
    (not_passed (cell_eq c a) (λ t. false≢true (sym e ∙ (ap (λ z. not (is_null z)) ((cell_eq-Decides c a).0 t) ∙ there))))

pub next : (index : Option ℕ) (rows : Rows) → NextAddsEqual index rows (min_rank index rows)
next index rows i j a b n m h k below between =
    let x = own index rows i a n h in
    let y = own index rows j b m k in
    let counts : count_below index rows b ≡ count_below index rows a + count_equal index rows a =
    split_length (λ r. is_below b (cell_at index r)) (λ r. is_below a (cell_at index r)) (λ r. cell_eq (cell_at index r) a) rows (λ s at.
    let c = cell_at index s in
    splits_cell a b c (not (is_null c)) refl x.3 below
    (λ e. between at.0 c (number index rows c) (has_number (number index rows) index rows s at e))) in
    let mine = x.4 in
    let other = y.4 in
    omega arith
