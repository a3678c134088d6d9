-- The least or greatest cell of the rows of a map, after changes of which none takes away a row that may have it, but where one as good comes in its place.
use Rattle.std.proofs.Common.{◌≡◌, Bool, true, false, cond, List, [], ◌∷◌, map, pos, Option, Some, None, refl, sym, ap, subst, ◌∙◌}
use Rattle.std.specs.Prelude.{T, ℤ, ◌&&◌, fold, not}
use Rattle.std.specs.Option.{IfSome}
use Rattle.std.specs.Ordering.{eq_by_cmp, is_eq}
use Rattle.std.specs.declared.cmp.Ordering.{Ordering}
use Rattle.std.specs.declared.cmp.Ordering.TheVariants.{Less, Equal, Greater}
use Rattle.std.specs.Cmp.{IsTotalOrder}
use Rattle.std.specs.FinMap.{FinMap, get, remove, same_map, get-remove, entries, entries_sorted, is_sorted, find, put, IsAntisymmetric, get-entries, entries-insert}
use Rattle.std.specs.FinMap.Entries.{below_all, by_order}
use Rattle.df_value.specs.declared.cell.Cell.{Cell}
use Rattle.df_value.specs.declared.cell.Cell.TheVariants as cell
use Rattle.df_column.specs.Changes.{Change, set_at, applied_list, applied}
use Rattle.df_column.proofs.Bools.{T-second}
use Rattle.df_counts.specs.Counts.{value_in}
use Rattle.df_delta.specs.Differences.{Fits}
use Rattle.df_delta.proofs.Changes.{get-set_at}
use Rattle.df_ops.specs.Aggregates.{is_beyond, min_or_max_in, non_null}
use Rattle.df_ops.specs.LoopStates.{min_or_max_after, min_or_max_with, non_null_of}
use Rattle.df_ops.specs.declared.min_max.MinMax.{MinMax}
use Rattle.df_ops.proofs.Least.{IsStrict}
use Rattle.df_ops.proofs.MinMaxFacts.{min_or_max_after_is, strict}
use Rattle.df_group.specs.Totals.{is_as_good, may_be_best}
use Rattle.df_group.proofs.RowSums.{fits_first, fits_later, itself, put_back, remove_none}

-- of three cells, the one that lies beyond the others, in any order
module _ (below : Cell → Cell → Bool) (s : IsStrict below) where
  abbrev further : Cell → Cell → Cell
  further a b = cond (below b a) b a

  either_way : (a b : Cell) → further a b ≡ further b a
  either_way a b = step (below b a) (below a b) refl refl where
    step : (p q : Bool) → below b a ≡ p → below a b ≡ q → cond p b a ≡ cond q a b
    step true true h k = absurd (cc (sym (s.trans a b a k h) ∙ s.irrefl a))
    step true false h k = refl
    step false true h k = refl
    step false false h k = s.apart a b k h

  not_beyond : (a b c : Cell) → below b a ≡ false → below c b ≡ false → below c a ≡ false
  not_beyond a b c h k = step (below a b) (below c a) refl refl where
    step : (p q : Bool) → below a b ≡ p → below c a ≡ q → below c a ≡ false
    step p false m n = n
    step true true m n = absurd (cc (sym (s.trans c a b n m) ∙ k))
    step false true m n = ap (below c) (s.apart a b m h) ∙ k

  in_turn : (a b c : Cell) → further (further a b) c ≡ further a (further b c)
  in_turn a b c = step (below b a) (below c b) refl refl where
    step : (p q : Bool) → below b a ≡ p → below c b ≡ q → further (cond p b a) c ≡ further a (cond q c b)
    step true true h k = ap (λ r. cond r c b) k ∙ sym (ap (λ r. cond r c a) (s.trans c b a k h))
    step true false h k = ap (λ r. cond r c b) k ∙ sym (ap (λ r. cond r b a) h)
    step false true h k = refl
    step false false h k = ap (λ r. cond r c a) (not_beyond a b c h k) ∙ sym (ap (λ r. cond r b a) h)

module _ (e : MinMax) where
  none_first : (x : Option Cell) → min_or_max_with e None x ≡ x
  none_first None = refl
  none_first (Some x) = refl

  turned : (x y : Option Cell) → min_or_max_with e x y ≡ min_or_max_with e y x
  turned None None = refl
  turned None (Some y) = refl
  turned (Some x) None = refl
  turned (Some x) (Some y) = ap Some (either_way (is_beyond e) (strict e) x y)

  grouped : (x y z : Option Cell) → min_or_max_with e (min_or_max_with e x y) z ≡ min_or_max_with e x (min_or_max_with e y z)
  grouped x y None = refl
  grouped x None (Some z) = refl
  grouped None (Some y) (Some z) = refl
  grouped (Some x) (Some y) (Some z) = ap Some (in_turn (is_beyond e) (strict e) x y z)

  -- the one of all rows
  abbrev pub row_extreme : {K X : Type 0} → (X → Option Cell) → List (K × X) → Option Cell
  row_extreme f [] = None
  row_extreme f (r ∷ es) = min_or_max_with e (f r.1) (row_extreme f es)

  -- that of a row, if there is one
  abbrev pub part : {X : Type 0} → (X → Option Cell) → Option X → Option Cell
  part f None = None
  part f (Some x) = f x

  -- the best one after a change of a row, from the one before
  abbrev pub best_after : {X : Type 0} → (X → Option Cell) → Option (Option Cell) → Change X → Option (Option Cell)
  best_after f None c = None
  best_after f (Some best) c = cond (may_be_best e best (part f c.old) && not (is_as_good e best (part f c.new))) None (Some (min_or_max_with e best (part f c.new)))

  abbrev pub best_after_all : {K X : Type 0} → (X → Option Cell) → Option (Option Cell) → List (K × Change X) → Option (Option Cell)
  best_after_all f best es = fold (λ best r. best_after f best r.1) best es

  not_known : {K X : Type 0} (f : X → Option Cell) (es : List (K × Change X)) → best_after_all f None es ≡ None
  not_known f [] = refl
  not_known f (r ∷ es) = not_known f es

  itself_may : (x : Cell) → may_be_best e (Some x) (Some x) ≡ true
  itself_may x = ap not ((strict e).irrefl x)

  -- one cell that may not be the best is not needed for it
  stays : (r x : Option Cell) → may_be_best e (min_or_max_with e r x) x ≡ false → r ≡ min_or_max_with e r x
  stays r None h = refl
  stays None (Some x) h = absurd (cc (sym (itself_may x) ∙ h))
  stays (Some l) (Some x) h = by_case (is_beyond e x l) h where
    by_case : (b : Bool) → may_be_best e (Some (cond b x l)) (Some x) ≡ false → Some l ≡ Some (cond b x l)
    by_case true h = absurd (cc (sym (itself_may x) ∙ h))
    by_case false h = refl

  -- a cell as good as the best one comes in the place of any other
  reached : (o c : Cell) → is_beyond e o c ≡ false → min_or_max_with e (Some o) (Some c) ≡ Some c
  reached o c h = by_case (is_beyond e c o) refl where
    by_case : (b : Bool) → is_beyond e c o ≡ b → Some (cond b c o) ≡ Some c
    by_case true p = refl
    by_case false p = ap Some ((strict e).apart o c h p)

  behind_both : (r : Option Cell) (o b c : Cell) → min_or_max_with e r (Some o) ≡ Some b → is_beyond e b c ≡ false → is_beyond e o c ≡ false
  behind_both None o b c is h = let same : o ≡ b = cc is in subst (λ x. is_beyond e x c ≡ false) (sym same) h
  behind_both (Some l) o b c is h = by_case (is_beyond e o l) refl is where
    by_case : (t : Bool) → is_beyond e o l ≡ t → Some (cond t o l) ≡ Some b → is_beyond e o c ≡ false
    by_case true p is = let same : o ≡ b = cc is in subst (λ x. is_beyond e x c ≡ false) (sym same) h
    by_case false p is = let same : l ≡ b = cc is in not_beyond (is_beyond e) (strict e) c b o h (subst (λ x. is_beyond e o x ≡ false) same p)

  in_place : (r x y : Option Cell) → is_as_good e (min_or_max_with e r x) y ≡ true → min_or_max_with e (min_or_max_with e r x) y ≡ min_or_max_with e r y
  in_place r None y h = refl
  in_place r (Some o) None h = absurd (cc h)
  in_place r (Some o) (Some c) h = grouped r (Some o) (Some c) ∙ ap (min_or_max_with e r) (by_case (min_or_max_with e r (Some o)) refl h) where
    by_case : (best : Option Cell) → min_or_max_with e r (Some o) ≡ best → is_as_good e best (Some c) ≡ true → min_or_max_with e (Some o) (Some c) ≡ Some c
    by_case None is h = absurd (some_left r is) where
      some_left : (r : Option Cell) → min_or_max_with e r (Some o) ≡ None → ⊥
      some_left None is = cc is
      some_left (Some l) is = cc is
    by_case (Some b) is h = reached o c (behind_both r o b c is (not_true (is_beyond e b c) h)) where
      not_true : (t : Bool) → not t ≡ true → t ≡ false
      not_true true h = sym h
      not_true false h = refl

  -- the one that goes is not the best, or the one that comes is as good
  known_after : (r x y : Option Cell) → (may_be_best e (min_or_max_with e r x) x && not (is_as_good e (min_or_max_with e r x) y)) ≡ false → min_or_max_with e (min_or_max_with e r x) y ≡ min_or_max_with e r y
  known_after r x y h = by_case (may_be_best e (min_or_max_with e r x) x) (is_as_good e (min_or_max_with e r x) y) refl refl h where
    by_case : (p q : Bool) → may_be_best e (min_or_max_with e r x) x ≡ p → is_as_good e (min_or_max_with e r x) y ≡ q → (p && not q) ≡ false → min_or_max_with e (min_or_max_with e r x) y ≡ min_or_max_with e r y
    by_case false q m n h = ap (λ b. min_or_max_with e b y) (sym (stays r x m))
    by_case true true m n h = in_place r x y n
    by_case true false m n h = absurd (cc h)

  after_is : (best : Option Cell) (cells : List Cell) → min_or_max_after e best cells ≡ min_or_max_with e best (min_or_max_after e None cells)
  after_is best [] = refl
  after_is best (c ∷ cells) =
      after_is (min_or_max_with e best (non_null_of c)) cells
      ∙ grouped best (non_null_of c) (min_or_max_after e None cells)
      ∙ ap (min_or_max_with e best) (ap (λ x. min_or_max_with e x (min_or_max_after e None cells)) (sym (none_first (non_null_of c))) ∙ sym (after_is (min_or_max_with e None (non_null_of c)) cells))

  of_value : (c : Cell) → value_in c ≡ non_null_of c
  of_value cell.Null = refl
  of_value (cell.Int n) = refl
  of_value (cell.Wide n) = refl
  of_value (cell.Text t) = refl
  of_value (cell.Bool b) = refl
  of_value (cell.Frac f) = refl

  rows_after : {K X : Type 0} (at : X → Cell) (es : List (K × X)) → min_or_max_after e None (map at (map (λ r. r.1) es)) ≡ row_extreme (λ x. value_in (at x)) es
  rows_after at [] = refl
  rows_after at (r ∷ es) =
      after_is (min_or_max_with e None (non_null_of (at r.1))) (map at (map (λ r. r.1) es))
      ∙ ap (λ x. min_or_max_with e x (min_or_max_after e None (map at (map (λ r. r.1) es)))) (none_first (non_null_of (at r.1)) ∙ sym (of_value (at r.1)))
      ∙ ap (min_or_max_with e (value_in (at r.1))) (rows_after at es)

  pub row_extreme_is : {K X : Type 0} (at : X → Cell) (es : List (K × X)) → min_or_max_in e (non_null (map at (map (λ r. r.1) es))) ≡ row_extreme (λ x. value_in (at x)) es
  row_extreme_is at es = sym (min_or_max_after_is e (map at (map (λ r. r.1) es))) ∙ rows_after at es

  module _ {K X : Type 0} {R : K → K → Ordering} (o : IsTotalOrder R) (same : IsAntisymmetric R) (f : X → Option Cell) where
    extreme_put : (k : K) (v : X) (es : List (K × X)) → find R k es ≡ None → row_extreme f (put R k v es) ≡ min_or_max_with e (row_extreme f es) (f v)
    extreme_put k v [] none = sym (none_first (f v))
    extreme_put k v (r ∷ es) none = by_case (R k r.0) none (extreme_put k v es) where
      by_case : (c : Ordering) → cond (is_eq c) (Some r.1) (find R k es) ≡ None → (find R k es ≡ None → row_extreme f (put R k v es) ≡ min_or_max_with e (row_extreme f es) (f v))
          → row_extreme f (by_order c ((k, v) ∷ r ∷ es) ((r.0, v) ∷ es) (r ∷ put R k v es)) ≡ min_or_max_with e (row_extreme f (r ∷ es)) (f v)
      by_case Less h rest = turned (f v) (row_extreme f (r ∷ es))
      by_case Equal h rest = absurd (cc h)
      by_case Greater h rest = ap (min_or_max_with e (f r.1)) (rest h) ∙ sym (grouped (f r.1) (row_extreme f es) (f v))

    nothing : X → ℤ
    nothing x = pos 0

    -- without the row at a key, and with it
    gone : (t : FinMap R X) (k : K) → get (remove t k) k ≡ None
    gone t k = get-remove o t k k ∙ ap (λ b. cond b None (get t k)) (itself o same nothing k)

    extreme_without : (t : FinMap R X) (k : K) (a : Option X) → get t k ≡ a → row_extreme f (entries t) ≡ min_or_max_with e (row_extreme f (entries (remove t k))) (part f a)
    extreme_without t k None at = ap (λ m. row_extreme f (entries m)) (sym (remove_none o same nothing t k at))
    extreme_without t k (Some x) at =
        ap (λ m. row_extreme f (entries m)) (sym (put_back o same nothing t k x at))
        ∙ ap (row_extreme f) (entries-insert o (remove t k) k x)
        ∙ extreme_put k x (entries (remove t k)) (sym (get-entries (remove t k) k) ∙ gone t k)

    removed : (t : FinMap R X) (k : K) (v : Option X) → remove (set_at t k v) k ≡ remove t k
    removed t k v =
        same_map o same _ _ (λ q. get-remove o (set_at t k v) k q ∙ ap (cond (eq_by_cmp R q k) None) (get-set_at o t k v q) ∙ by_case q (eq_by_cmp R q k) ∙ sym (get-remove o t k q))
      where
        by_case : (q : K) (b : Bool) → cond b None (cond b v (get t q)) ≡ cond b None (get t q)
        by_case q true = refl
        by_case q false = refl

    extreme_set : (t : FinMap R X) (k : K) (v : Option X) → row_extreme f (entries (set_at t k v)) ≡ min_or_max_with e (row_extreme f (entries (remove t k))) (part f v)
    extreme_set t k v =
        extreme_without (set_at t k v) k v (get-set_at o t k v k ∙ ap (λ b. cond b v (get t k)) (itself o same nothing k))
        ∙ ap (λ m. min_or_max_with e (row_extreme f (entries m)) (part f v)) (removed t k v)

    -- one change
    next : (t : FinMap R X) (k : K) (old new : Option X) → get t k ≡ old → (may_be_best e (row_extreme f (entries t)) (part f old) && not (is_as_good e (row_extreme f (entries t)) (part f new))) ≡ false
        → min_or_max_with e (row_extreme f (entries t)) (part f new) ≡ row_extreme f (entries (set_at t k new))
    next t k old new at known =
        let rest = row_extreme f (entries (remove t k)) in
        let before : row_extreme f (entries t) ≡ min_or_max_with e rest (part f old) = extreme_without t k old at in
        ap (λ b. min_or_max_with e b (part f new)) before
        ∙ known_after rest (part f old) (part f new) (subst (λ b. (may_be_best e b (part f old) && not (is_as_good e b (part f new))) ≡ false) before known)
        ∙ sym (extreme_set t k new)

    -- all changes of a list that fits
    extreme_list : (t : FinMap R X) (es : List (K × Change X)) → T (is_sorted R es) → ((q : K) → IfSome (find R q es) (λ c. c.old ≡ get t q))
        → IfSome (best_after_all f (Some (row_extreme f (entries t))) es) (λ best. best ≡ row_extreme f (entries (applied_list t es)))
    extreme_list t [] h fits = refl
    extreme_list t (r ∷ es) h fits =
        by_case (may_be_best e (row_extreme f (entries t)) (part f r.1.old) && not (is_as_good e (row_extreme f (entries t)) (part f r.1.new))) refl
        (extreme_list (set_at t r.0 r.1.new) es (T-second (below_all R r.0 es) (is_sorted R es) h) (fits_later o same nothing t r es h fits))
      where
        Is : Option (Option Cell) → Type 0
        Is found = IfSome found (λ best. best ≡ row_extreme f (entries (applied_list (set_at t r.0 r.1.new) es)))

        by_case : (b : Bool) → (may_be_best e (row_extreme f (entries t)) (part f r.1.old) && not (is_as_good e (row_extreme f (entries t)) (part f r.1.new))) ≡ b
            → Is (best_after_all f (Some (row_extreme f (entries (set_at t r.0 r.1.new)))) es)
            → Is (best_after_all f (cond b None (Some (min_or_max_with e (row_extreme f (entries t)) (part f r.1.new)))) es)
        by_case true p rest = subst Is (sym (not_known f es)) tt
        by_case false p rest = subst (λ b. Is (best_after_all f (Some b) es)) (sym (next t r.0 r.1.old r.1.new (sym (fits_first o same nothing t r es fits)) p)) rest

    pub extreme_applied : (t : FinMap R X) (d : FinMap R (Change X)) → Fits t d
        → IfSome (best_after_all f (Some (row_extreme f (entries t))) (entries d)) (λ best. best ≡ row_extreme f (entries (applied t d)))
    extreme_applied t d fits = extreme_list t (entries d) (entries_sorted d) (λ q. subst (λ o. IfSome o (λ c. c.old ≡ get t q)) (get-entries d q) (fits.at q))
