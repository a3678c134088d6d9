-- The least and the greatest cell of a list that is made of two: for each strict order, the lesser one of both.
use Rattle.std.proofs.Common.{◌≡◌, ℕ, zero, suc, Bool, true, false, cond, List, [], ◌∷◌, ◌++◌, refl, sym, ap, subst, ◌∙◌, append-nil}
use Rattle.std.specs.Prelude.{Option, Some, None, not, ◌&&◌, find, slice_get}
use Rattle.std.specs.List.{list_all}
use Rattle.std.specs.Ordering.{is_lt, is_gt, ordering_reverse}
use Rattle.std.specs.declared.cmp.Ordering.{Ordering}
use Rattle.std.specs.declared.cmp.Ordering.TheVariants as ordering
use Rattle.std.proofs.lemmas.Bool.{false≢true}
use Rattle.std.proofs.lemmas.List.Elements.{filter-append}
use Rattle.df_value.specs.CellOrder.{cell_cmp, cell_cmp_total}
use Rattle.df_value.specs.CellOrders.{exact, to_itself}
use Rattle.df_value.specs.declared.cell.Cell.{Cell}
use Rattle.df_column.specs.MinMaxCells.{min_or_max_in, min_or_max_of, min_or_max_with, is_beyond, is_null, non_null}
use Rattle.df_column.specs.declared.min_max.MinMax.{MinMax}
use Rattle.df_column.specs.declared.min_max.MinMax.TheVariants as min_max

-- a strict order of cells in which two that do not differ are the same
pub record IsStrict (below : Cell → Cell → Bool) : Type 0 where
  pub irrefl : (a : Cell) → below a a ≡ false
  pub trans : (a b c : Cell) → below a b ≡ true → below b c ≡ true → below a c ≡ true
  pub apart : (a b : Cell) → below a b ≡ false → below b a ≡ false → a ≡ b

less : (o : Ordering) → is_lt o ≡ true → o ≡ ordering.Less
less ordering.Less h = refl
less ordering.Equal h = cc
less ordering.Greater h = cc

greater : (o : Ordering) → is_gt o ≡ true → o ≡ ordering.Greater
greater ordering.Less h = cc
greater ordering.Equal h = cc
greater ordering.Greater h = refl

-- two orders of which neither is less, each being the other reversed, are equal
neither : (o r : Ordering) → o ≡ ordering_reverse r → is_lt o ≡ false → is_lt r ≡ false → o ≡ ordering.Equal
neither ordering.Less r e h k = cc
neither ordering.Equal r e h k = refl
neither ordering.Greater ordering.Less e h k = cc
neither ordering.Greater ordering.Equal e h k = cc
neither ordering.Greater ordering.Greater e h k = cc

neither_more : (o r : Ordering) → o ≡ ordering_reverse r → is_gt o ≡ false → is_gt r ≡ false → o ≡ ordering.Equal
neither_more ordering.Greater r e h k = cc
neither_more ordering.Equal r e h k = refl
neither_more ordering.Less ordering.Less e h k = cc
neither_more ordering.Less ordering.Equal e h k = cc
neither_more ordering.Less ordering.Greater e h k = cc

turned : (a b : Cell) → cell_cmp a b ≡ ordering.Greater → cell_cmp b a ≡ ordering.Less
turned a b h = cell_cmp_total.antisymm b a ∙ ap ordering_reverse h

turned_back : (a b : Cell) → cell_cmp b a ≡ ordering.Less → cell_cmp a b ≡ ordering.Greater
turned_back a b h = cell_cmp_total.antisymm a b ∙ ap ordering_reverse h

pub strict : (e : MinMax) → IsStrict (is_beyond e)
strict min_max.Min = record {
  irrefl = λ a. ap is_lt (to_itself a);
  trans = λ a b c h k. ap is_lt (cell_cmp_total.trans a b c (less (cell_cmp a b) h) (less (cell_cmp b c) k));
  apart = λ a b h k. exact a b (neither (cell_cmp a b) (cell_cmp b a) (cell_cmp_total.antisymm a b) h k);
}
strict min_max.Max = record {
  irrefl = λ a. ap is_gt (to_itself a);
  trans = λ a b c h k. ap is_gt (turned_back a c (cell_cmp_total.trans c b a (turned b c (greater (cell_cmp b c) k)) (turned a b (greater (cell_cmp a b) h))));
  apart = λ a b h k. exact a b (neither_more (cell_cmp a b) (cell_cmp b a) (cell_cmp_total.antisymm a b) h k);
}

first_of : (a b : Bool) → (a && b) ≡ true → a ≡ true
first_of true b h = refl
first_of false b h = cc

second_of : (a b : Bool) → (a && b) ≡ true → b ≡ true
second_of true b h = h
second_of false b h = cc

both_of : (a b : Bool) → a ≡ true → b ≡ true → (a && b) ≡ true
both_of true b e h = h
both_of false b e h = cc

not_true : (b : Bool) → not b ≡ true → b ≡ false
not_true true h = cc
not_true false h = refl

not_false : (b : Bool) → b ≡ false → not b ≡ true
not_false true h = cc
not_false false h = refl

no : (b : Bool) → (b ≡ true → false ≡ true) → b ≡ false
no true h = sym (h refl)
no false h = refl

holds_of : (q : Cell → Bool) (cs : List Cell) (k : ℕ) (c : Cell) → list_all q cs ≡ true → slice_get cs k ≡ Some c → q c ≡ true
holds_of q [] k c h at = cc
holds_of q (d ∷ cs) zero c h at =
    let same : d ≡ c = cc in
    subst (λ z. q z ≡ true) same (first_of (q d) (list_all q cs) h)
holds_of q (d ∷ cs) (suc k) c h at = holds_of q cs k c (second_of (q d) (list_all q cs) h) at

found_at :
    (p : Cell → Bool) (m z : Cell) (zs : List Cell) (b : Bool) → p z ≡ b → (b ≡ true → z ≡ m) →
    (b ≡ false → find p zs ≡ Some m) → cond b (Some z) (find p zs) ≡ Some m
found_at p m z zs true e here later = ap Some (here refl)
found_at p m z zs false e here later = later refl

-- a search finds the one cell of a list that has a property
found :
    (p : Cell → Bool) (m : Cell) (zs : List Cell) (k : ℕ) → slice_get zs k ≡ Some m → p m ≡ true →
    ((c : Cell) (j : ℕ) → slice_get zs j ≡ Some c → p c ≡ true → c ≡ m) → find p zs ≡ Some m
found p m [] k at h one = cc
found p m (z ∷ zs) zero at h one =
    let same : z ≡ m = cc in
    found_at p m z zs (p z) refl (λ e. same) (λ e. absurd (false≢true (sym e ∙ (ap p same ∙ h))))
found p m (z ∷ zs) (suc k) at h one =
    found_at p m z zs (p z) refl (one z 0 refl) (λ e. found p m zs k at h (λ c j. one c (suc j)))

index :
    (l c m : Cell) (cs : List Cell) (b : Bool) → (k : ℕ) × (slice_get (cond b c l ∷ cs) k ≡ Some m) →
    (k : ℕ) × (slice_get (l ∷ c ∷ cs) k ≡ Some m)
index l c m cs true (zero, h) = (1, h)
index l c m cs true (suc k, h) = (suc (suc k), h)
index l c m cs false (zero, h) = (0, h)
index l c m cs false (suc k, h) = (suc (suc k), h)

module _ (below : Cell → Cell → Bool) (order : IsStrict below) where
  -- the lesser one of two, and the least of a cell and those of a list, the earlier one where two are the same
  abbrev lesser : Cell → Cell → Cell
  lesser c l = cond (below c l) c l

  abbrev least_after : Cell → List Cell → Cell
  least_after l [] = l
  least_after l (c ∷ cs) = least_after (lesser c l) cs

  abbrev is_lowest : List Cell → Cell → Bool
  is_lowest cells c = list_all (λ d. not (below d c)) cells

  between :
      (l c m : Cell) (b : Bool) → below l c ≡ b → below c l ≡ false → below l m ≡ false → below c m ≡ true → false ≡ true
  between l c m true e f h t = sym h ∙ order.trans l c m e t
  between l c m false e f h t = sym h ∙ (ap (λ z. below z m) (order.apart l c e f) ∙ t)

  -- what is not below the lesser of two is not below the other
  kept :
      (l c m : Cell) (b : Bool) → below c l ≡ b → below (cond b c l) m ≡ false →
      (below l m ≡ false) × (below c m ≡ false)
  kept l c m true e h = (no (below l m) (λ t. sym h ∙ order.trans c l m e t), h)
  kept l c m false e h = (h, no (below c m) (λ t. between l c m (below l c) refl e h t))

  lowest_after : (l : Cell) (cs : List Cell) → is_lowest (l ∷ cs) (least_after l cs) ≡ true
  lowest_after l [] = both_of (not (below l l)) true (not_false (below l l) (order.irrefl l)) refl
  lowest_after l (c ∷ cs) =
      let next = lesser c l in
      let m = least_after next cs in
      let rest = list_all (λ d. not (below d m)) cs in
      let later : (not (below next m) && rest) ≡ true = lowest_after next cs in
      let both = kept l c m (below c l) refl (not_true (below next m) (first_of (not (below next m)) rest later)) in
      both_of (not (below l m)) (not (below c m) && rest) (not_false (below l m) both.0)
      (both_of (not (below c m)) rest (not_false (below c m) both.1) (second_of (not (below next m)) rest later))

  -- where it stands
  stands_after : (l : Cell) (cs : List Cell) → (k : ℕ) × (slice_get (l ∷ cs) k ≡ Some (least_after l cs))
  stands_after l [] = (0, refl)
  stands_after l (c ∷ cs) = index l c _ cs (below c l) (stands_after (lesser c l) cs)

  least_found : (l : Cell) (cs : List Cell) → find (is_lowest (l ∷ cs)) (l ∷ cs) ≡ Some (least_after l cs)
  least_found l cs =
      let m = least_after l cs in
      let at = stands_after l cs in
      let low : is_lowest (l ∷ cs) m ≡ true = lowest_after l cs in
      found (is_lowest (l ∷ cs)) m (l ∷ cs) at.0 at.1 low
      (λ c j here lowest. order.apart c m
      (not_true (below c m) (holds_of (λ d. not (below d m)) (l ∷ cs) j c low here))
      (not_true (below m c) (holds_of (λ d. not (below d c)) (l ∷ cs) at.0 m lowest at.1)))

  -- of three
  above_both :
      (l y m : Cell) (b : Bool) → below l y ≡ b → below y l ≡ false → below m y ≡ false → below m l ≡ true → false ≡ true
  above_both l y m true e f h t = sym h ∙ order.trans m l y t e
  above_both l y m false e f h t = sym h ∙ (ap (λ z. below m z) (sym (order.apart l y e f)) ∙ t)

  lesser_of_three :
      (l y m : Cell) (p q : Bool) → below y l ≡ p → below m y ≡ q → lesser m (cond p y l) ≡ lesser (cond q m y) l
  lesser_of_three l y m true true e f = ap (λ b. cond b m y) f ∙ sym (ap (λ b. cond b m l) (order.trans m y l f e))
  lesser_of_three l y m true false e f = ap (λ b. cond b m y) f ∙ sym (ap (λ b. cond b y l) e)
  lesser_of_three l y m false true e f = refl
  lesser_of_three l y m false false e f =
      ap (λ b. cond b m l) (no (below m l) (λ t. above_both l y m (below l y) refl e f t)) ∙ sym (ap (λ b. cond b y l) e)

  -- of two lists, one behind the other
  least_behind : (l y : Cell) (ys : List Cell) → least_after l (y ∷ ys) ≡ lesser (least_after y ys) l
  least_behind l y [] = refl
  least_behind l y (z ∷ zs) =
      least_behind (lesser y l) z zs
      ∙ lesser_of_three l y (least_after z zs) (below y l) (below (least_after z zs) y) refl refl
      ∙ ap (λ m. lesser m l) (sym (least_behind y z zs))

  least_append : (l : Cell) (xs ys : List Cell) → least_after l (xs ++ ys) ≡ least_after (least_after l xs) ys
  least_append l [] ys = refl
  least_append l (x ∷ xs) ys = least_append (lesser x l) xs ys

-- of the cells of two lists that are not null
module _ (e : MinMax) where
  in_both : (xs ys : List Cell) → min_or_max_in e (xs ++ ys) ≡ min_or_max_with e (min_or_max_in e xs) (min_or_max_in e ys)
  in_both [] ys = refl
  in_both (x ∷ xs) [] =
      let first = least_found (is_beyond e) (strict e) x xs in
      ap (min_or_max_in e) (append-nil (x ∷ xs)) ∙ first ∙ sym (ap (λ o. min_or_max_with e o None) first)
  in_both (x ∷ xs) (y ∷ ys) =
      let below = is_beyond e in
      let order = strict e in
      let l = least_after below order x xs in
      let m = least_after below order y ys in
      least_found below order x (xs ++ y ∷ ys)
      ∙ ap Some (least_append below order x xs (y ∷ ys) ∙ least_behind below order l y ys)
      ∙ sym (ap (λ o. min_or_max_with e (Some l) o) (least_found below order y ys))
      ∙ sym (ap (λ o. min_or_max_with e o (min_or_max_in e (y ∷ ys))) (least_found below order x xs))

  pub min_or_max-append : (xs ys : List Cell) → min_or_max_of e (xs ++ ys) ≡ min_or_max_with e (min_or_max_of e xs) (min_or_max_of e ys)
  min_or_max-append xs ys = ap (min_or_max_in e) (filter-append (λ c. not (is_null c)) xs ys) ∙ in_both (non_null xs) (non_null ys)

  -- what a search finds, and where it finds nothing
  pub lowest_found : (zs : List Cell) (g : Cell) → min_or_max_in e zs ≡ Some g → list_all (λ d. not (is_beyond e d g)) zs ≡ true
  lowest_found [] g h = cc
  lowest_found (z ∷ zs) g h =
      let first = least_found (is_beyond e) (strict e) z zs in
      let same : least_after (is_beyond e) (strict e) z zs ≡ g = cc (first, h) in
      subst (λ g. list_all (λ d. not (is_beyond e d g)) (z ∷ zs) ≡ true) same (lowest_after (is_beyond e) (strict e) z zs)

  pub none_found : (zs : List Cell) → min_or_max_in e zs ≡ None → zs ≡ []
  none_found [] h = refl
  none_found (z ∷ zs) h = let first = least_found (is_beyond e) (strict e) z zs in cc (first, h)

  -- what does not lie beyond a cell does not lie beyond one that this does not reach
  pub not_beyond : (d g v : Cell) → is_beyond e d g ≡ false → is_beyond e g v ≡ false → is_beyond e d v ≡ false
  not_beyond d g v h k = no (is_beyond e d v) (λ t. above_both (is_beyond e) (strict e) v g d (is_beyond e v g) refl k h t)

  -- the furthest of three
  pub min_or_max_of_three : (a x y : Option Cell) → min_or_max_with e (min_or_max_with e a x) y ≡ min_or_max_with e a (min_or_max_with e x y)
  min_or_max_of_three None x y = refl
  min_or_max_of_three (Some l) None y = refl
  min_or_max_of_three (Some l) (Some m) None = refl
  min_or_max_of_three (Some l) (Some m) (Some n) = ap Some (lesser_of_three (is_beyond e) (strict e) l m n (is_beyond e m l) (is_beyond e n m) refl refl)
