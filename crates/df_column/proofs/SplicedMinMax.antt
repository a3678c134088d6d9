-- The least or greatest of some cells among which others stand, and where that of old cells stands after a splice.
use Rattle.std.proofs.Common.{◌≡◌, ℕ, zero, suc, ◌+◌, ◌-◌, ◌<◌, ◌≤◌, Bool, true, false, cond, List, [], ◌∷◌, ◌++◌, length, take, drop, get_or, Some, None, refl, sym, ap, subst, ◌∙◌, arith, length-append, length-take, length-drop}
use Rattle.std.specs.Prelude.{Option, find, not, ◌&&◌}
use Rattle.std.specs.List.{list_all}
use Rattle.std.proofs.lemmas.Bool.{false≢true}
use Rattle.std.proofs.lemmas.List.{get_or-append-add, get_or-drop, get_or-take, get_or_append_left, take-append-drop}
use Rattle.df_value.specs.declared.cell.Cell.{Cell}
use Rattle.df_value.specs.declared.cell.Cell.TheVariants as cell
use Rattle.df_column.specs.BlockMinMax.{IsKnownBefore, IsSearch, cell_there}
use Rattle.df_column.specs.MinMaxCells.{min_or_max_of, min_or_max_with, is_beyond, is_null, non_null}
use Rattle.df_column.specs.Picks.{spliced}
use Rattle.df_column.specs.declared.min_max_search.Search.{Search}
use Rattle.df_column.specs.declared.min_max.MinMax.{MinMax}
use Rattle.df_column.specs.declared.min_max.Splice.{Splice}
use Rattle.df_column.proofs.BlocksMinMax.{min_or_max-append, min_or_max_of_three, lowest_found, none_found, strict}
use Rattle.df_column.proofs.ListParts.{drop_front, take_front, take_longer}

-- of two cells that do not differ it is the same which one is taken
pub min_or_max_with_commutes : (e : MinMax) (a b : Option Cell) → min_or_max_with e a b ≡ min_or_max_with e b a
min_or_max_with_commutes e None None = refl
min_or_max_with_commutes e None (Some b) = refl
min_or_max_with_commutes e (Some a) None = refl
min_or_max_with_commutes e (Some a) (Some b) = ap Some (either (is_beyond e b a) (is_beyond e a b) refl refl) where
  either : (p q : Bool) → is_beyond e b a ≡ p → is_beyond e a b ≡ q → cond p b a ≡ cond q a b
  either true true h k = absurd (false≢true (sym ((strict e).irrefl b) ∙ (strict e).trans b a b h k))
  either true false h k = refl
  either false true h k = refl
  either false false h k = (strict e).apart a b k h

-- cells that stand among others
pub min_or_max_among : (e : MinMax) (xs ys zs : List Cell) → min_or_max_of e ((xs ++ zs) ++ ys) ≡ min_or_max_with e (min_or_max_of e (xs ++ ys)) (min_or_max_of e zs)
min_or_max_among e xs ys zs =
    let x = min_or_max_of e xs in
    let y = min_or_max_of e ys in
    let z = min_or_max_of e zs in
    min_or_max-append e (xs ++ zs) ys ∙ ap (λ o. min_or_max_with e o y) (min_or_max-append e xs zs) ∙ min_or_max_of_three e x z y
    ∙ ap (λ o. min_or_max_with e x o) (min_or_max_with_commutes e z y)
    ∙ sym (min_or_max_of_three e x y z) ∙ ap (λ o. min_or_max_with e o z) (sym (min_or_max-append e xs ys))

-- what is found among cells that are not null is not null
found : (p : Cell → Bool) (cells : List Cell) (c : Cell) → find p (non_null cells) ≡ Some c → is_null c ≡ false
found p [] c h = absurd (cc h)
found p (d ∷ cells) c h = outer (found p cells c) (is_null d) refl h where
  inner : (find p (non_null cells) ≡ Some c → is_null c ≡ false) → (b : Bool) → is_null d ≡ false → cond b (Some d) (find p (non_null cells)) ≡ Some c → is_null c ≡ false
  inner rest true n k = let same : d ≡ c = cc k in subst (λ x. is_null x ≡ false) same n
  inner rest false n k = rest k

  outer : (find p (non_null cells) ≡ Some c → is_null c ≡ false) → (b : Bool) → is_null d ≡ b → find p (cond (not b) (d ∷ non_null cells) (non_null cells)) ≡ Some c → is_null c ≡ false
  outer rest true n k = rest k
  outer rest false n k = inner rest (p d) n k

pub min_or_max_not_null : (e : MinMax) (cells : List Cell) (c : Cell) → min_or_max_of e cells ≡ Some c → is_null c ≡ false
min_or_max_not_null e cells c h = found (λ c. list_all (λ d. not (is_beyond e d c)) (non_null cells)) cells c h

-- what holds of all cells that are not null holds of one of them
holds_at : (p : Cell → Bool) (cells : List Cell) (i : ℕ) → i < length cells → is_null (get_or cells i cell.Null) ≡ false → list_all p (non_null cells) ≡ true → p (get_or cells i cell.Null) ≡ true
holds_at p [] i lt n h = absurd (omega arith)
holds_at p (c ∷ cells) zero lt n h = first (p c) (ap (λ b. list_all p (cond (not b) (c ∷ non_null cells) (non_null cells))) (sym n) ∙ h) where
  first : (b : Bool) → (b && list_all p (non_null cells)) ≡ true → b ≡ true
  first true h = refl
  first false h = h
holds_at p (c ∷ cells) (suc i) lt n h = holds_at p cells i (omega arith) n (outer (is_null c) h) where
  inner : (b : Bool) → (b && list_all p (non_null cells)) ≡ true → list_all p (non_null cells) ≡ true
  inner true h = h
  inner false h = cc h

  outer : (b : Bool) → list_all p (cond (not b) (c ∷ non_null cells) (non_null cells)) ≡ true → list_all p (non_null cells) ≡ true
  outer true h = h
  outer false h = inner (p c) h

-- without other cells, the least or greatest of all is still that of those among which it stands
stays : (e : MinMax) (cells : List Cell) (i : ℕ) (o : Option Cell) → i < length cells → is_null (get_or cells i cell.Null) ≡ false
    → min_or_max_with e (min_or_max_of e cells) o ≡ Some (get_or cells i cell.Null) → min_or_max_of e cells ≡ Some (get_or cells i cell.Null)
stays e cells i o lt n h = either (min_or_max_of e cells) o refl h where
  it : Cell
  it = get_or cells i cell.Null

  beyond : (x y : Cell) (b : Bool) → min_or_max_of e cells ≡ Some x → is_beyond e y x ≡ b → Some (cond b y x) ≡ Some it → Some x ≡ Some it
  beyond x y false k t h = h
  beyond x y true k t h =
      let same : y ≡ it = cc h in
      let low : not (is_beyond e it x) ≡ true = holds_at (λ d. not (is_beyond e d x)) cells i lt n (lowest_found e (non_null cells) x k) in
      absurd (false≢true (ap not (sym (ap (λ z. is_beyond e z x) (sym same) ∙ t)) ∙ low))

  either : (x y : Option Cell) → min_or_max_of e cells ≡ x → min_or_max_with e x y ≡ Some it → x ≡ Some it
  either None y k h =
      absurd (false≢true (holds_at (λ d. false) cells i lt n (ap (list_all (λ d. false)) (none_found e (non_null cells) k))))
  either (Some x) None k h = h
  either (Some x) (Some y) k h = beyond x y (is_beyond e y x) k refl h

none_stays : (e : MinMax) (x y : Option Cell) → min_or_max_with e x y ≡ None → x ≡ None
none_stays e None y h = refl
none_stays e (Some x) None h = h
none_stays e (Some x) (Some y) h = absurd (cc h)

module _ (e : MinMax) (s : Splice) (cells : List Cell) where
  abbrev searched : Option ℕ → Search
  searched at = record { known = at; low = s.low; high = s.low + s.count }

  module _ (at : Option ℕ) (b : IsKnownBefore e s cells at) where
    abbrev front : List Cell
    front = take s.low b.old

    abbrev back : List Cell
    back = drop s.high b.old

    front_length : length front ≡ s.low
    front_length = let t = length-take s.low b.old in omega (arith, t, b.ordered, b.in_range)

    lengths : record { all : length cells ≡ s.low + s.count + (length b.old - s.high); back : length back ≡ length b.old - s.high }
    lengths =
        let a = ap length b.is in
        let p = length-append front (b.more ++ back) in
        let q = length-append b.more back in
        let d = length-drop s.high b.old in
        record { all = omega (arith, a, p, q, d, front_length, b.count); back = d }

    beside : take s.low cells ++ drop (s.low + s.count) cells ≡ front ++ back
    beside =
        ap (λ cs. take s.low cs ++ drop (s.low + s.count) cs) b.is
        ∙ ap (λ cs. cs ++ drop (s.low + s.count) (spliced s.low s.high b.more b.old)) (take_front front (b.more ++ back) s.low (sym front_length))
        ∙ ap (λ cs. front ++ cs) (drop_front front (b.more ++ back) (s.low + s.count) s.count (omega (arith, front_length)) ∙ drop_front b.more back s.count 0 (omega (arith, b.count)))

    old_is : (front ++ drop s.low (take s.high b.old)) ++ back ≡ b.old
    old_is = ap (λ cs. cs ++ back) (take_longer b.old 0 s.low s.high (omega arith) b.ordered) ∙ take-append-drop s.high b.old

    with_middle : min_or_max_with e (min_or_max_of e (front ++ back)) (min_or_max_of e (drop s.low (take s.high b.old))) ≡ cell_there b.old at
    with_middle = sym (min_or_max_among e front back (drop s.low (take s.high b.old))) ∙ ap (min_or_max_of e) old_is ∙ sym b.known_is.here

  found_again : (i j k : ℕ) (b : IsKnownBefore e s cells (Some i)) → j < length cells → get_or cells j cell.Null ≡ get_or b.old i cell.Null
      → k < length (front (Some i) b ++ back (Some i) b) → get_or (front (Some i) b ++ back (Some i) b) k cell.Null ≡ get_or b.old i cell.Null
      → IsSearch e cells (searched (Some j))
  found_again i j k b within same among here =
      let rest = front (Some i) b ++ back (Some i) b in
      let n : is_null (get_or rest k cell.Null) ≡ false = ap is_null here ∙ min_or_max_not_null e b.old (get_or b.old i cell.Null) (sym b.known_is.here) in
      let kept = stays e rest k (min_or_max_of e (drop s.low (take s.high b.old))) among n (with_middle (Some i) b ∙ ap Some (sym here)) in
      record {
        ordered = omega arith;
        in_range = omega (arith, (lengths (Some i) b).all);
        beside = record { within = within; here = sym (ap (min_or_max_of e) (beside (Some i) b) ∙ kept ∙ ap Some (here ∙ sym same)) };
      }

  -- where the row of the known cell is before the new rows, or behind them
  pub search_before : (i : ℕ) → IsKnownBefore e s cells (Some i) → i < s.low → IsSearch e cells (searched (Some i))
  search_before i b lt =
      let l = lengths (Some i) b in
      let f = front_length (Some i) b in
      let front = front (Some i) b in
      let back = back (Some i) b in
      let long = length-append front back in
      let old = get_or-take s.low b.old i cell.Null lt in
      found_again i i i b (omega (arith, l.all))
      (ap (λ cs. get_or cs i cell.Null) b.is ∙ get_or_append_left front (b.more ++ back) cell.Null i (omega (arith, f)) ∙ old)
      (omega (arith, long, f))
      (get_or_append_left front back cell.Null i (omega (arith, f)) ∙ old)

  pub search_behind : (i : ℕ) → IsKnownBefore e s cells (Some i) → s.high ≤ i → IsSearch e cells (searched (Some (s.low + s.count + (i - s.high))))
  search_behind i b le =
      let l = lengths (Some i) b in
      let f = front_length (Some i) b in
      let front = front (Some i) b in
      let back = back (Some i) b in
      let k = i - s.high in
      let long = length-append front back in
      let sum : s.high + k ≡ i = omega arith in
      let new : s.low + s.count + k ≡ length front + (length b.more + k) = omega (arith, f, b.count) in
      let kept : s.low + k ≡ length front + k = omega (arith, f) in
      let old = get_or-drop s.high b.old k cell.Null ∙ ap (λ n. get_or b.old n cell.Null) sum in
      found_again i (s.low + s.count + k) (s.low + k) b (omega (arith, l.all, b.known_is.within))
      (ap (λ cs. get_or cs (s.low + s.count + k) cell.Null) b.is ∙ ap (λ n. get_or (front ++ (b.more ++ back)) n cell.Null) new
      ∙ get_or-append-add front (b.more ++ back) (length b.more + k) cell.Null ∙ get_or-append-add b.more back k cell.Null ∙ old)
      (omega (arith, long, f, l.back, b.known_is.within))
      (ap (λ n. get_or (front ++ back) n cell.Null) kept ∙ get_or-append-add front back k cell.Null ∙ old)

  -- where all old cells are null
  pub search_new : IsKnownBefore e s cells None → IsSearch e cells (searched None)
  search_new b =
      record {
        ordered = omega arith;
        in_range = omega (arith, (lengths None b).all);
        beside = record { within = tt; here = sym (ap (min_or_max_of e) (beside None b) ∙ none_stays e (min_or_max_of e (front None b ++ back None b)) _ (with_middle None b)) };
      }

-- where all cells are looked at
pub search_all : (e : MinMax) (cells : List Cell) (n : ℕ) → n ≡ length cells → IsSearch e cells (record { known = None; low = 0; high = n })
search_all e cells n h =
    record {
      ordered = omega arith;
      in_range = omega (arith, h);
      beside = record { within = tt; here = sym (ap (min_or_max_of e) (none_behind cells n h)) };
    }
  where
    none_behind : (cs : List Cell) (n : ℕ) → n ≡ length cs → drop n cs ≡ []
    none_behind [] zero h = refl
    none_behind [] (suc n) h = refl
    none_behind (c ∷ cs) zero h = absurd (omega arith)
    none_behind (c ∷ cs) (suc n) h = none_behind cs n (omega (arith, h))
