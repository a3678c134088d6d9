-- Equal cells have one rank, a greater cell has a greater one, and the greatest is the number of distinct cells.
use Rattle.std.proofs.Common.{◌≡◌, ℕ, ◌≢◌, ◌<◌, ◌≤◌, ◌+◌, ◌∙◌, Bool, true, false, cond, zero, suc, List, [], ◌∷◌, ◌++◌, ⊎_elim, length, get_or, map, filter, refl, ap, sym, subst, arith, count_by, Contains, Option}
use Rattle.std.specs.Prelude.{Some, None, option_map, slice_get, not, pos, ◌&&◌}
use Rattle.std.specs.Ordering.{is_lt, ordering_reverse}
use Rattle.std.specs.declared.cmp.Ordering.{Ordering}
use Rattle.std.specs.declared.cmp.Ordering.TheVariants as ordering
use Rattle.std.specs.List.{list_any, AllByRecursion}
use Rattle.std.proofs.lemmas.List.Elements.{All-contains}
use Rattle.std.proofs.lemmas.List.Sums.{sum_by-cons}
use Rattle.std.proofs.lemmas.Option.{slice_get-map, slice_get_cases, slice_get_read}
use Rattle.df_value.specs.declared.cell.Cell.{Cell}
use Rattle.df_value.specs.declared.cell.Cell.TheVariants as cell
use Rattle.df_value.specs.CellOrder.{cell_cmp, cell_cmp_total}
use Rattle.df_value.specs.Rows.{cell_at, row_eq}
use Rattle.df_expr.specs.Value.{is_null}
use Rattle.df_ops.specs.Groups.{distinct_after, key_of}
use Rattle.df_ops.specs.Ranks.{distinct_at, is_non_null_key, is_smaller, dense_rank, rank_number, EachIsRanked, GreatestCounts, HasRank, RanksAgree, RanksRise, RanksWithin}
use Rattle.df_value.specs.CellOrders.{exact, to_itself}
use Rattle.df_value.specs.RowEq.{row_eq-Decides}
use Rattle.df_value.specs.Choices.{either}
use Rattle.df_ops.proofs.MinMaxFacts.{less}
use Rattle.df_ops.proofs.Keys.{each_row, keys_of-IsDistinct, found_after}
use Rattle.df_ops.proofs.Partition.{once}

abbrev Rows : Type 0
Rows = List (List Cell)

no_fewer : (b c : Bool) → (b ≡ true → c ≡ true) → (x : List Cell) (ps qs : Rows) → length ps ≤ length qs →
    length (cond b (x ∷ ps) ps) ≤ length (cond c (x ∷ qs) qs)
no_fewer true true f x ps qs h = omega arith
no_fewer true false f x ps qs h = let e = f refl in cc
no_fewer false true f x ps qs h = omega arith
no_fewer false false f x ps qs h = h

-- what q takes too is no fewer
filter_more : (p q : List Cell → Bool) → ((x : List Cell) → p x ≡ true → q x ≡ true) → (xs : Rows) → length (filter p xs) ≤ length (filter q xs)
filter_more p q f [] = omega arith
filter_more p q f (x ∷ xs) = no_fewer (p x) (q x) (f x) x (filter p xs) (filter q xs) (filter_more p q f xs)

one_more : (b c : Bool) → b ≡ false → c ≡ true → (x : List Cell) (ps qs : Rows) → length ps ≤ length qs →
    length (cond b (x ∷ ps) ps) < length (cond c (x ∷ qs) qs)
one_more true c e f x ps qs h = cc
one_more false true e f x ps qs h = omega arith
one_more false false e f x ps qs h = cc

still_more : (b c : Bool) → (b ≡ true → c ≡ true) → (x : List Cell) (ps qs : Rows) → length ps < length qs →
    length (cond b (x ∷ ps) ps) < length (cond c (x ∷ qs) qs)
still_more true true f x ps qs h = omega arith
still_more true false f x ps qs h = let e = f refl in cc
still_more false true f x ps qs h = omega arith
still_more false false f x ps qs h = h

-- and one that only q takes makes them more
filter_less :
    (p q : List Cell → Bool) → ((x : List Cell) → p x ≡ true → q x ≡ true) → (xs : Rows) (k : ℕ) (x : List Cell) → k < length xs →
    get_or xs k x ≡ x → p x ≡ false → q x ≡ true → length (filter p xs) < length (filter q xs)
filter_less p q f [] k x h e a b = absurd (omega arith)
filter_less p q f (y ∷ ys) zero x h e a b =
    let same : y ≡ x = e in
    one_more (p y) (q y) (ap p same ∙ a) (ap q same ∙ b) y (filter p ys) (filter q ys) (filter_more p q f ys)
filter_less p q f (y ∷ ys) (suc k) x h e a b =
    still_more (p y) (q y) (f y) y (filter p ys) (filter q ys) (filter_less p q f ys k x (omega arith) e a b)

pub first_cell : (a b : Bool) → (a && b) ≡ true → a ≡ true
first_cell true b h = refl
first_cell false b h = cc

pub second_of : (a b : Bool) → (a && b) ≡ true → b ≡ true
second_of true b h = h
second_of false b h = cc

pub both_of : (a b : Bool) → a ≡ true → b ≡ true → (a && b) ≡ true
both_of true b e h = h
both_of false b e h = cc

and_false : (a : Bool) → (a && false) ≡ false
and_false true = refl
and_false false = refl

pub smaller_too : (a b : Cell) → cell_cmp a b ≡ ordering.Less → (key : List Cell) → is_smaller a key ≡ true → is_smaller b key ≡ true
smaller_too a b h key e =
    let k = cell_at (Some 0) key in
    both_of (not (is_null k)) (is_lt (cell_cmp k b)) (first_cell (not (is_null k)) (is_lt (cell_cmp k a)) e)
    (ap is_lt (cell_cmp_total.trans k a b (less (cell_cmp k a) (second_of (not (is_null k)) (is_lt (cell_cmp k a)) e)) h))

non_null_too : (a : Cell) (key : List Cell) → is_smaller a key ≡ true → is_non_null_key key ≡ true
non_null_too a key e = first_cell (is_non_null_key key) (is_lt (cell_cmp (cell_at (Some 0) key) a)) e

not_itself : (a : Cell) → is_smaller a (a ∷ []) ≡ false
not_itself a = ap (λ o. not (is_null a) && is_lt o) (to_itself a) ∙ and_false (not (is_null a))

-- a row's cell is one of the distinct ones
key_stands : (index : Option ℕ) (rows : Rows) (r : List Cell) → Contains rows r → Contains (distinct_at index rows) (cell_at index r ∷ [])
key_stands index rows r h =
    All-contains (λ r. Contains (distinct_at index rows) (key_of (index ∷ []) r)) rows r (each_row (index ∷ []) rows) h

-- what holds of each row's key holds of each distinct one
pub all_mapped :
    (P : List Cell → Type 0) (f : List Cell → List Cell) (rs : Rows) → ((r : List Cell) → Contains rs r → P (f r)) → AllByRecursion P (map f rs)
all_mapped P f [] h = tt
all_mapped P f (r ∷ rs) h = (h r (zero, omega arith, refl), all_mapped P f rs (λ s at. h s (suc at.0, omega arith, at.2)))

all_pushed : (P : List Cell → Type 0) (xs : Rows) (y : List Cell) → AllByRecursion P xs → P y → AllByRecursion P (xs ++ y ∷ [])
all_pushed P [] y h k = (k, tt)
all_pushed P (x ∷ xs) y h k = (h.0, all_pushed P xs y h.1 k)

all_distinct : (P : List Cell → Type 0) (seen rs : Rows) → AllByRecursion P seen → AllByRecursion P rs → AllByRecursion P (distinct_after seen rs)
all_distinct P seen [] h k = h
all_distinct P seen (r ∷ rs) h k =
    either (AllByRecursion P) (list_any (row_eq r) seen) _ _
    (all_distinct P seen rs h k.1) (all_distinct P (seen ++ r ∷ []) rs (all_pushed P seen r h k.0) k.1)

-- what p takes, q or e takes too
abbrev IsCovered : (List Cell → Bool) → (List Cell → Bool) → (List Cell → Bool) → List Cell → Type 0
IsCovered p q e x = p x ≡ true → q x ≡ false → e x ≡ true

covered_head :
    (b c d : Bool) → (b ≡ true → c ≡ false → d ≡ true) → (x : List Cell) (ps qs : Rows) (n : ℕ) → length ps ≤ length qs + n →
    length (cond b (x ∷ ps) ps) ≤ length (cond c (x ∷ qs) qs) + (cond d 1 0 + n)
covered_head true true d f x ps qs n h = omega arith
covered_head true false true f x ps qs n h = omega arith
covered_head true false false f x ps qs n h = let e = f refl refl in cc
covered_head false true d f x ps qs n h = omega arith
covered_head false false d f x ps qs n h = omega arith

covered :
    (p q e : List Cell → Bool) (xs : Rows) → AllByRecursion (IsCovered p q e) xs →
    length (filter p xs) ≤ length (filter q xs) + count_by e xs
covered p q e [] h = omega arith
covered p q e (x ∷ xs) h =
    let here = sum_by-cons (λ y. cond (e y) 1 0) x xs in
    let head = covered_head (p x) (q x) (e x) h.0 x (filter p xs) (filter q xs) (count_by e xs) (covered p q e xs h.1) in
    omega arith

-- a cell that is neither smaller nor greater is the cell itself
same_cell : (a c : Cell) (o : Ordering) → cell_cmp c a ≡ o → is_lt o ≡ false → cell_cmp a c ≢ ordering.Less → row_eq (a ∷ []) (c ∷ []) ≡ true
same_cell a c ordering.Less e h k = cc
same_cell a c ordering.Equal e h k = (row_eq-Decides (a ∷ []) (c ∷ [])).1 (ap (λ z. z ∷ []) (sym (exact c a e)))
same_cell a c ordering.Greater e h k = absurd (k (cell_cmp_total.antisymm a c ∙ ap ordering_reverse e))

key_found : (index : Option ℕ) (rows : Rows) (r : List Cell) → Contains rows r → list_any (row_eq (cell_at index r ∷ [])) (distinct_at index rows) ≡ true
key_found index rows r at =
    subst (λ z. list_any (row_eq (cell_at index z ∷ [])) (distinct_at index rows) ≡ true) at.2 (found_after (key_of (index ∷ [])) [] rows at.0 r at.1)

not_less : (b c : Bool) → b ≡ true → (b && c) ≡ false → c ≡ false
not_less true c e h = h
not_less false c e h = cc

-- the number that a cell which is not null has
not_null : (b : Bool) (m n : ℕ) → cond {A = Cell} b cell.Null (cell.Int (pos m)) ≡ cell.Int (pos n) → (b ≡ false) × (m ≡ n)
not_null true m n h = cc
not_null false m n h = (refl, cc)

number_of : (b : Bool) (m : ℕ) → not b ≡ true → cond {A = Cell} b cell.Null (cell.Int (pos m)) ≡ cell.Int (pos m)
number_of true m h = cc
number_of false m h = refl

-- each cell that is not null with its number, and null with null
abbrev pub ranks_by : (Cell → ℕ) → Option ℕ → Rows → List Cell
ranks_by number index rows = map (λ r. cond (is_null (cell_at index r)) cell.Null (cell.Int (pos (number (cell_at index r))))) rows

-- a row of this cell, which is not null, is there, and this is the cell's number
abbrev pub IsRankOf : (Cell → ℕ) → Option ℕ → Rows → Cell → ℕ → Type 0
IsRankOf number index rows c n =
    (r : List Cell) × Contains rows r × (cell_at index r ≡ c) × (not (is_null c) ≡ true) × (number c ≡ n)

is_rank_of :
    (number : Cell → ℕ) (index : Option ℕ) (rows : Rows) (r : List Cell) (c : Cell) (n : ℕ) → Contains rows r → cell_at index r ≡ c →
    cond (is_null c) cell.Null (cell.Int (pos (number c))) ≡ cell.Int (pos n) → IsRankOf number index rows c n
is_rank_of number index rows r c n at same h =
    let parts = not_null (is_null c) (number c) n h in
    (r, at, same, ap not parts.0, parts.1)

some_is : {X : Type 0} (x y : X) → Some x ≡ Some y → x ≡ y
some_is x y h = cc

-- where each cell that is not null has its number, and null has null, each cell is ranked
pub each_ranked :
    (number : Cell → ℕ) (index : Option ℕ) (rows : Rows) → ((c : Cell) → 1 ≤ number c) →
    EachIsRanked index rows (ranks_by number index rows)
each_ranked number index rows least i c h =
    let value : Cell → Cell = λ c. cond (is_null c) cell.Null (cell.Int (pos (number c))) in
    let f : List Cell → Cell = λ r. value (cell_at index r) in
    ⊎_elim
    (λ at.
    let own : cell_at index at.0 ≡ c = some_is (cell_at index at.0) c (sym (ap (option_map (cell_at index)) at.2) ∙ h) in
    let here : slice_get (map f rows) i ≡ Some (value c) = slice_get-map f rows i ∙ (ap (option_map f) at.2 ∙ ap (λ z. Some (value z)) own) in (
      (λ e. here ∙ ap (λ b. Some (cond b cell.Null (cell.Int (pos (number c))))) e),
      (λ e. (number c, (least c, here ∙ ap Some (number_of (is_null c) (number c) e)))),
    ))
    (λ past.
    let none : None ≡ Some c = sym (ap (option_map (cell_at index)) past.1) ∙ h in
    cc)
    (slice_get_cases rows i).1

pub dense_ranked : (index : Option ℕ) (rows : Rows) → EachIsRanked index rows (dense_rank index rows)
dense_ranked index rows = each_ranked (rank_number (distinct_at index rows)) index rows (λ c. omega arith)

pub numbered :
    (number : Cell → ℕ) (index : Option ℕ) (rows : Rows) (i : ℕ) (c : Cell) (n : ℕ) → HasRank index rows (ranks_by number index rows) i c n →
    IsRankOf number index rows c n
numbered number index rows i c n h =
    let value : Cell → Cell = λ c. cond (is_null c) cell.Null (cell.Int (pos (number c))) in
    let f : List Cell → Cell = λ r. value (cell_at index r) in
    ⊎_elim
    (λ at.
    let own : cell_at index at.0 ≡ c = some_is (cell_at index at.0) c (sym (ap (option_map (cell_at index)) at.2) ∙ h.0) in
    let here : f at.0 ≡ cell.Int (pos n) = some_is (f at.0) (cell.Int (pos n)) (sym (ap (option_map f) at.2) ∙ (sym (slice_get-map f rows i) ∙ h.1)) in
    is_rank_of number index rows at.0 c n (i, at.1, at.3) own (subst (λ z. value z ≡ cell.Int (pos n)) own here))
    (λ past.
    let none : None ≡ Some c = sym (ap (option_map (cell_at index)) past.1) ∙ h.0 in
    cc)
    (slice_get_cases rows i).1

-- each row's cell that is not null has its rank
pub has_number :
    (number : Cell → ℕ) (index : Option ℕ) (rows : Rows) (s : List Cell) (at : Contains rows s) → not (is_null (cell_at index s)) ≡ true →
    HasRank index rows (ranks_by number index rows) at.0 (cell_at index s) (number (cell_at index s))
has_number number index rows s at e =
    let value : Cell → Cell = λ c. cond (is_null c) cell.Null (cell.Int (pos (number c))) in
    let f : List Cell → Cell = λ r. value (cell_at index r) in
    let c = cell_at index s in
    let read : slice_get rows at.0 ≡ Some s = slice_get_read rows (length rows) at.0 s refl at.1 (sym at.2) in (
      ap (option_map (cell_at index)) read,
      slice_get-map f rows at.0 ∙ (ap (option_map f) read ∙ ap Some (number_of (is_null c) (number c) e)),
    )

pub ranked :
    (index : Option ℕ) (rows : Rows) (i : ℕ) (c : Cell) (n : ℕ) → HasRank index rows (dense_rank index rows) i c n →
    IsRankOf (rank_number (distinct_at index rows)) index rows c n
ranked index rows = numbered (rank_number (distinct_at index rows)) index rows

has_rank :
    (index : Option ℕ) (rows : Rows) (s : List Cell) (at : Contains rows s) → not (is_null (cell_at index s)) ≡ true →
    HasRank index rows (dense_rank index rows) at.0 (cell_at index s) (rank_number (distinct_at index rows) (cell_at index s))
has_rank index rows = has_number (rank_number (distinct_at index rows)) index rows

cell_stands :
    (index : Option ℕ) (rows : Rows) (r : List Cell) (c : Cell) → Contains rows r → cell_at index r ≡ c → Contains (distinct_at index rows) (c ∷ [])
cell_stands index rows r c at same = subst (λ z. Contains (distinct_at index rows) (z ∷ [])) same (key_stands index rows r at)

pub agree : (index : Option ℕ) (rows : Rows) → RanksAgree index rows (dense_rank index rows)
agree index rows i j c n m h k = sym (ranked index rows i c n h).4 ∙ (ranked index rows j c m k).4

pub rise : (index : Option ℕ) (rows : Rows) → RanksRise index rows (dense_rank index rows)
rise index rows i j a b n m h k less_than =
    let x = ranked index rows i a n h in
    let y = ranked index rows j b m k in
    let at = cell_stands index rows x.0 a x.1 x.2 in
    let more = filter_less (is_smaller a) (is_smaller b) (smaller_too a b less_than) (distinct_at index rows) at.0 (a ∷ []) at.1 at.2
    (not_itself a) (both_of (not (is_null a)) (is_lt (cell_cmp a b)) x.3 (ap is_lt less_than)) in
    let own = x.4 in
    let other = y.4 in
    omega arith

pub within : (index : Option ℕ) (rows : Rows) → RanksWithin index rows (dense_rank index rows)
within index rows i a n h =
    let x = ranked index rows i a n h in
    let at = cell_stands index rows x.0 a x.1 x.2 in
    let more = filter_less (is_smaller a) is_non_null_key (non_null_too a) (distinct_at index rows) at.0 (a ∷ []) at.1 at.2 (not_itself a) x.3 in
    let own = x.4 in
    omega arith

-- where no cell is greater, each cell that is not null is smaller or the cell itself
all_covered :
    (index : Option ℕ) (rows : Rows) (a : Cell) →
    ((j : ℕ) (b : Cell) (m : ℕ) → HasRank index rows (dense_rank index rows) j b m → cell_cmp a b ≢ ordering.Less) →
    AllByRecursion (IsCovered is_non_null_key (is_smaller a) (row_eq (a ∷ []))) (distinct_at index rows)
all_covered index rows a most =
    let P : List Cell → Type 0 = IsCovered is_non_null_key (is_smaller a) (row_eq (a ∷ [])) in
    all_distinct P [] (map (key_of (index ∷ [])) rows) tt (all_mapped P (key_of (index ∷ [])) rows (λ s at e h.
    let c = cell_at index s in
    same_cell a c (cell_cmp c a) refl (not_less (not (is_null c)) (is_lt (cell_cmp c a)) e h)
    (most at.0 c (rank_number (distinct_at index rows) c) (has_rank index rows s at e))))

pub greatest : (index : Option ℕ) (rows : Rows) → GreatestCounts index rows (dense_rank index rows)
greatest index rows i a n h most =
    let x = ranked index rows i a n h in
    let few = covered is_non_null_key (is_smaller a) (row_eq (a ∷ [])) (distinct_at index rows) (all_covered index rows a most) in
    let found = subst (λ z. list_any (row_eq (z ∷ [])) (distinct_at index rows) ≡ true) x.2 (key_found index rows x.0 x.1) in
    let one = once (a ∷ []) (distinct_at index rows) (keys_of-IsDistinct (index ∷ []) rows) found in
    let more = within index rows i a n h in
    let own = x.4 in
    omega arith
