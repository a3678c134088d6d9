-- Rows in three parts, of which each is changed by its own entries.
use Rattle.std.proofs.Common.{◌≡◌, ℕ, zero, suc, ◌+◌, ◌-◌, ◌≤◌, true, false, not, cond, List, [], ◌∷◌, ◌++◌, Option, Some, None, length, map, take, drop, refl, sym, ap, subst, ◌∙◌, arith, length-drop, length-take}
use Rattle.std.specs.Prelude.{T}
use Rattle.std.proofs.lemmas.List.{map-append, take-append-drop, take_all}
use Rattle.std.specs.List.{prefix_len}
use Rattle.std.specs.FinMap.{is_sorted, put}
use Rattle.std.specs.FinMap.Entries.{below_all, by_order}
use Rattle.std.specs.Ordering.{eq_by_cmp, is_lt}
use Rattle.std.specs.declared.cmp.Ordering.TheVariants.{Less, Equal, Greater}
use Rattle.df_value.specs.declared.cell.Cell.{Cell}
use Rattle.df_column.specs.Changes.{Change, IsHead, after_changes, all_from, all_under, apart, edit}
use Rattle.df_column.specs.Tables.{AreRising, entry_change}
use Rattle.df_column.specs.TagOrder.{tag_total}
use Rattle.df_column.specs.Tags.{tag_cmp}
use Rattle.df_column.specs.declared.entry.Entry.{Entry}
use Rattle.df_column.specs.declared.tag.Tag.{Tag}
use Rattle.df_column.proofs.Bools.{T-both, T-first, T-second}
use Rattle.df_column.proofs.ChangeRuns.{after_changes-append, after_changes-left, apart_at, apart_heads, below_first, below_from, changes_runs, sorted_apart, sorted_from, sorted_second}
use Rattle.df_column.proofs.TableChanges.{halves, under_taken}
use Rattle.df_column.proofs.TagRuns.{head_below}

pub apart_nothing : {X : Type 0} (xs : List (Tag × X)) → T (apart {Y = List Cell} tag_cmp xs [])
apart_nothing [] = tt
apart_nothing (x ∷ xs) = apart_nothing xs

-- lists of which one stands before the other
module _ {X Y : Type 0} where
  pub apart_both : (xs : List (Tag × X)) (ys zs : List (Tag × Y)) → T (apart tag_cmp xs ys) → T (apart tag_cmp xs zs) → T (apart tag_cmp xs (ys ++ zs))
  apart_both [] ys zs p q = tt
  apart_both (x ∷ xs) ys zs p q = T-both _ _ (both ys (T-first (below_all tag_cmp x.0 ys) _ p) (T-first (below_all tag_cmp x.0 zs) _ q)) (apart_both xs ys zs (T-second (below_all tag_cmp x.0 ys) _ p) (T-second (below_all tag_cmp x.0 zs) _ q)) where
    both : (ys : List (Tag × Y)) → T (below_all tag_cmp x.0 ys) → T (below_all tag_cmp x.0 zs) → T (below_all tag_cmp x.0 (ys ++ zs))
    both [] p q = q
    both (y ∷ ys) p q = T-both _ _ (T-first (is_lt (tag_cmp x.0 y.0)) _ p) (both ys (T-second (is_lt (tag_cmp x.0 y.0)) _ p) q)

  pub apart_front : (xs ws : List (Tag × X)) (ys : List (Tag × Y)) → T (apart tag_cmp (xs ++ ws) ys) → T (apart tag_cmp xs ys)
  apart_front [] ws ys h = tt
  apart_front (x ∷ xs) ws ys h = T-both _ _ (T-first (below_all tag_cmp x.0 ys) _ h) (apart_front xs ws ys (T-second (below_all tag_cmp x.0 ys) _ h))

  pub apart_back : (xs ws : List (Tag × X)) (ys : List (Tag × Y)) → T (apart tag_cmp (xs ++ ws) ys) → T (apart tag_cmp ws ys)
  apart_back [] ws ys h = h
  apart_back (x ∷ xs) ws ys h = apart_back xs ws ys (T-second (below_all tag_cmp x.0 ys) _ h)

  -- what stands before some rows stands before what follows them
  pub apart_by : {Z : Type 0} (xs : List (Tag × X)) (ys : List (Tag × Y)) (zs : List (Tag × Z)) → ((t : Tag) → T (below_all tag_cmp t ys) → T (below_all tag_cmp t zs)) → T (apart tag_cmp xs ys) → T (apart tag_cmp xs zs)
  apart_by [] ys zs f h = tt
  apart_by (x ∷ xs) ys zs f h = T-both _ _ (f x.0 (T-first (below_all tag_cmp x.0 ys) _ h)) (apart_by xs ys zs f (T-second (below_all tag_cmp x.0 ys) _ h))

module _ {X : Type 0} where
  under_second : (k : Tag) (xs ys : List (Tag × X)) → T (all_under tag_cmp k (xs ++ ys)) → T (all_under tag_cmp k ys)
  under_second k [] ys h = h
  under_second k (x ∷ xs) ys h = under_second k xs ys (T-second (is_lt (tag_cmp x.0 k)) _ h)

  under_front : (k : Tag) (xs ys : List (Tag × X)) → T (all_under tag_cmp k (xs ++ ys)) → T (all_under tag_cmp k xs)
  under_front k [] ys h = tt
  under_front k (x ∷ xs) ys h = T-both _ _ (T-first (is_lt (tag_cmp x.0 k)) _ h) (under_front k xs ys (T-second (is_lt (tag_cmp x.0 k)) _ h))

  -- a tag below rows is below them after changes that it is below
  below_edit : (t k : Tag) (v : Option X) (es : List (Tag × X)) → T (is_lt (tag_cmp t k)) → T (below_all tag_cmp t es) → T (below_all tag_cmp t (edit tag_cmp es k v))
  below_edit t k None [] less h = tt
  below_edit t k (Some v) [] less h = T-both _ _ less tt
  below_edit t k None (e ∷ es) less h =
      let rest = below_edit t k None es less (T-second (is_lt (tag_cmp t e.0)) _ h) in
      elim (not (eq_by_cmp tag_cmp k e.0)) as (λ b. T (below_all tag_cmp t (cond b (e ∷ edit tag_cmp es k None) (edit tag_cmp es k None)))) [ true ↦ T-both _ _ (T-first (is_lt (tag_cmp t e.0)) _ h) rest | false ↦ rest ]
  below_edit t k (Some v) (e ∷ es) less h =
      let rest = below_edit t k (Some v) es less (T-second (is_lt (tag_cmp t e.0)) _ h) in
      elim (tag_cmp k e.0) as (λ r. T (below_all tag_cmp t (by_order r ((k, v) ∷ e ∷ es) ((e.0, v) ∷ es) (e ∷ put tag_cmp k v es)))) [ Less ↦ T-both _ _ less h | Equal ↦ h | Greater ↦ T-both _ _ (T-first (is_lt (tag_cmp t e.0)) _ h) rest ]

  below_changed : (t : Tag) (es : List (Tag × X)) (cs : List (Tag × Change X)) → T (below_all tag_cmp t es) → T (below_all tag_cmp t cs) → T (below_all tag_cmp t (after_changes tag_cmp es cs))
  below_changed t es [] p q = p
  below_changed t es (c ∷ cs) p q = below_changed t (edit tag_cmp es c.0 c.1.new) cs (below_edit t c.0 c.1.new es (T-first (is_lt (tag_cmp t c.0)) _ q) p) (T-second (is_lt (tag_cmp t c.0)) _ q)

  apart_changed : {Y : Type 0} (xs : List (Tag × Y)) (es : List (Tag × X)) (cs : List (Tag × Change X)) → T (apart tag_cmp xs es) → T (apart tag_cmp xs cs) → T (apart tag_cmp xs (after_changes tag_cmp es cs))
  apart_changed [] es cs p q = tt
  apart_changed (x ∷ xs) es cs p q = T-both _ _ (below_changed x.0 es cs (T-first (below_all tag_cmp x.0 es) _ p) (T-first (below_all tag_cmp x.0 cs) _ q)) (apart_changed xs es cs (T-second (below_all tag_cmp x.0 es) _ p) (T-second (below_all tag_cmp x.0 cs) _ q))

  -- a change adds at most one row
  length_edit : (k : Tag) (v : Option X) (es : List (Tag × X)) → length (edit tag_cmp es k v) ≤ length es + 1
  length_edit k None [] = omega arith
  length_edit k (Some v) [] = omega arith
  length_edit k None (e ∷ es) =
      let rest = length_edit k None es in
      elim (not (eq_by_cmp tag_cmp k e.0)) as (λ b. length (cond b (e ∷ edit tag_cmp es k None) (edit tag_cmp es k None)) ≤ suc (length es) + 1) [ true ↦ omega (arith, rest) | false ↦ omega (arith, rest) ]
  length_edit k (Some v) (e ∷ es) =
      let rest = length_edit k (Some v) es in
      elim (tag_cmp k e.0) as (λ r. length (by_order r ((k, v) ∷ e ∷ es) ((e.0, v) ∷ es) (e ∷ put tag_cmp k v es)) ≤ suc (length es) + 1) [ Less ↦ omega arith | Equal ↦ omega arith | Greater ↦ omega (arith, rest) ]

  pub length_changed : (es : List (Tag × X)) (cs : List (Tag × Change X)) → length (after_changes tag_cmp es cs) ≤ length es + length cs
  length_changed es [] = omega arith
  length_changed es (c ∷ cs) =
      let one = length_edit c.0 c.1.new es in
      let rest = length_changed (edit tag_cmp es c.0 c.1.new) cs in
      omega (arith, one, rest)

-- rows from a first one on
from_head : (k : Tag) (ys zs : List (Tag × List Cell)) → IsHead ys k → T (is_sorted tag_cmp (ys ++ zs)) → T (all_from tag_cmp k (ys ++ zs))
from_head k [] zs head h = absurd head
from_head k (y ∷ ys) zs head h = sorted_from tag_total k y (ys ++ zs) head h

under_head : (k : Tag) (xs ys zs : List (Tag × List Cell)) → IsHead ys k → T (is_sorted tag_cmp (xs ++ (ys ++ zs))) → T (all_under tag_cmp k xs)
under_head k xs [] zs head h = absurd head
under_head k xs (y ∷ ys) zs head h = subst (λ k. T (all_under tag_cmp k xs)) head (apart_heads tag_total xs y (ys ++ zs) (sorted_apart tag_total xs (y ∷ ys ++ zs) h))

head_first : (k t : Tag) (xs ys zs : List (Tag × List Cell)) → IsHead ys k → T (below_all tag_cmp t (xs ++ (ys ++ zs))) → tag_cmp t k ≡ Less
head_first k t xs [] zs head h = absurd head
head_first k t xs (y ∷ ys) zs head h = head_below t k xs (y ∷ ys ++ zs) h head

from_first : (k : Tag) (ys : List (Tag × List Cell)) → IsHead ys k → T (is_sorted tag_cmp ys) → T (all_from tag_cmp k ys)
from_first k [] head h = absurd head
from_first k (y ∷ ys) head h = sorted_from tag_total k y ys head h

-- the entries before the first of some rows
pub apart_before : (k : Tag) (rows : List (Tag × List Cell)) (es : List Entry) (n : ℕ) → n ≡ prefix_len (λ e. is_lt (tag_cmp e.tag k)) es → IsHead rows k → T (is_sorted tag_cmp rows) → T (apart tag_cmp (map entry_change (take n es)) rows)
apart_before k rows es n is head h =
    apart_at tag_total k (map entry_change (take n es)) rows
    (subst (λ m. T (all_under tag_cmp k (map entry_change (take m es)))) (sym is) (under_taken k es))
    (from_first k rows head h)

-- entries that are cut in two
pub taken_again : (u n : ℕ) (es : List Entry) → u ≤ n → take u (take n es) ≡ take u es
taken_again zero n es le = refl
taken_again (suc u) zero es le = absurd (omega arith)
taken_again (suc u) (suc n) [] le = refl
taken_again (suc u) (suc n) (e ∷ es) le = ap (λ r. e ∷ r) (taken_again u n es (omega arith))

dropped_again : (u n : ℕ) (es : List Entry) → u ≤ n → u ≤ length es → drop u (take n es) ++ drop n es ≡ drop u es
dropped_again zero n es le lt = take-append-drop n es
dropped_again (suc u) zero es le lt = absurd (omega arith)
dropped_again (suc u) (suc n) [] le lt = absurd (omega arith)
dropped_again (suc u) (suc n) (e ∷ es) le lt = dropped_again u n es (omega arith) (omega arith)

-- a first part, one that begins at a tag, and a last one; the entries before the tag, and the others, of which the last part takes
-- those behind the first so many
module _ (l m r : List (Tag × List Cell)) (k : Tag) (es : List Entry) (n u w : ℕ) (sorted : T (is_sorted tag_cmp (l ++ (m ++ r)))) (head : IsHead m k) (rising : AreRising es) where
  abbrev changes : List Entry → List (Tag × Change (List Cell))
  changes es = map entry_change es

  module _ (under : T (all_under tag_cmp k (changes (take n es)))) (from : T (all_from tag_cmp k (changes (drop n es)))) (within : u ≤ length (take n es)) (before : T (apart tag_cmp (changes (take u (take n es))) l)) where
    pub less : u ≤ n
    less = let e = length-take n es in omega (arith, e, within)

    pub within_all : u ≤ length es
    within_all = let e = length-take n es in omega (arith, e, within)

    cut_front : changes (take n es) ≡ changes (take u (take n es)) ++ changes (drop u (take n es))
    cut_front = sym (halves u (take n es))

    -- those that no part takes
    pub before_all : T (apart tag_cmp (changes (take u es)) (l ++ (m ++ r)))
    before_all =
        subst (λ es. T (apart tag_cmp (changes es) (l ++ (m ++ r)))) (taken_again u n es less)
        (apart_both (changes (take u (take n es))) l (m ++ r) before
        (apart_at tag_total k (changes (take u (take n es))) (m ++ r)
        (under_front k (changes (take u (take n es))) (changes (drop u (take n es))) (subst (λ cs. T (all_under tag_cmp k cs)) cut_front under))
        (from_head k m r head (sorted_second tag_total l (m ++ r) sorted))))

    own_under : T (all_under tag_cmp k (changes (drop u (take n es))))
    own_under = under_second k (changes (take u (take n es))) (changes (drop u (take n es))) (subst (λ cs. T (all_under tag_cmp k cs)) cut_front under)

    all_taken : changes (drop u es) ≡ changes (drop u (take n es)) ++ changes (drop n es)
    all_taken = ap changes (sym (dropped_again u n es less within_all)) ∙ map-append entry_change (drop u (take n es)) (drop n es)

    -- a tag below all rows is below those that are taken
    pub behind_all : ((t : Tag) → T (below_all tag_cmp t l) → T (below_all tag_cmp t (changes (drop u (take n es))))) → (t : Tag) → T (below_all tag_cmp t (l ++ (m ++ r))) → T (below_all tag_cmp t (changes (drop u es)))
    behind_all behind t h =
        subst (λ cs. T (below_all tag_cmp t cs)) (sym all_taken)
        (both (changes (drop u (take n es))) (behind t (below_first tag_total t l (m ++ r) h)) (below_from tag_total t k (changes (drop n es)) (head_first k t l m r head h) from))
      where
        both : (xs : List (Tag × Change (List Cell))) → T (below_all tag_cmp t xs) → T (below_all tag_cmp t (changes (drop n es))) → T (below_all tag_cmp t (xs ++ changes (drop n es)))
        both [] p q = q
        both (x ∷ xs) p q = T-both _ _ (T-first (is_lt (tag_cmp t x.0)) _ p) (both xs (T-second (is_lt (tag_cmp t x.0)) _ p) q)

    -- the rows after the changes
    pub rows_all : T (apart tag_cmp (changes (take w (drop n es))) r) → ((t : Tag) → T (below_all tag_cmp t r) → T (below_all tag_cmp t (changes (drop w (drop n es)))))
        → after_changes tag_cmp l (changes (drop u (take n es))) ++ (after_changes tag_cmp m (changes (take w (drop n es))) ++ after_changes tag_cmp r (changes (drop w (drop n es)))) ≡ after_changes tag_cmp (l ++ (m ++ r)) (changes (drop u es))
    rows_all mine behind =
        let own = changes (take w (drop n es)) in
        let last = changes (drop w (drop n es)) in
        let cut : changes (drop n es) ≡ own ++ last = sym (halves w (drop n es)) in
        let rest : T (is_sorted tag_cmp (changes (drop n es))) = sorted_second tag_total (changes (take n es)) (changes (drop n es)) (subst (λ cs. T (is_sorted tag_cmp cs)) (sym (halves n es)) rising) in
        let rows = sorted_second tag_total l (m ++ r) sorted in
        ap (λ rs. after_changes tag_cmp l (changes (drop u (take n es))) ++ rs)
        (sym (changes_runs tag_total m r own last mine (apart_by m r last behind (sorted_apart tag_total m r rows)) (sorted_apart tag_total own last (subst (λ cs. T (is_sorted tag_cmp cs)) cut rest)))
        ∙ ap (after_changes tag_cmp (m ++ r)) (sym cut))
        ∙ sym (changes_runs tag_total l (m ++ r) (changes (drop u (take n es))) (changes (drop n es))
        (apart_at tag_total k (changes (drop u (take n es))) (m ++ r) own_under (from_head k m r head rows))
        (apart_at tag_total k l (changes (drop n es)) (under_head k l m r head sorted) from)
        (apart_at tag_total k (changes (drop u (take n es))) (changes (drop n es)) own_under from))
        ∙ ap (after_changes tag_cmp (l ++ (m ++ r))) (sym all_taken)

pub rest_all : (n : ℕ) (es : List Entry) → take (length es - n) (drop n es) ≡ drop n es
rest_all n es = let d = length-drop n es in take_all (length es - n) (drop n es) (omega (arith, d))

-- entries from one index up to another first, then those behind, then those before
pub in_three : (rows : List (Tag × List Cell)) (es : List Entry) (u w : ℕ) → u ≤ w → AreRising es → T (apart tag_cmp (map entry_change (take u es)) rows)
    → after_changes tag_cmp (after_changes tag_cmp (after_changes tag_cmp rows (map entry_change (drop u (take w es)))) (map entry_change (drop w es))) (map entry_change (take u es)) ≡ after_changes tag_cmp rows (map entry_change es)
in_three rows es u w le rising before =
    let first = map entry_change (take u es) in
    let middle = map entry_change (drop u (take w es)) in
    let last = map entry_change (drop w es) in
    let cut : map entry_change (drop u es) ≡ middle ++ last = parts u w es le in
    let whole : map entry_change es ≡ first ++ (middle ++ last) = sym (halves u es) ∙ ap (λ cs. first ++ cs) cut in
    let behind : T (apart tag_cmp first (middle ++ last)) = sorted_apart tag_total first (middle ++ last) (subst (λ cs. T (is_sorted tag_cmp cs)) whole rising) in
    ap (λ rs. after_changes tag_cmp rs first) (sym (after_changes-append tag_total rows middle last))
    ∙ after_changes-left tag_total [] (after_changes tag_cmp rows (middle ++ last)) first (apart_changed first rows (middle ++ last) before behind)
    ∙ sym (changes_runs tag_total [] rows first (middle ++ last) before tt behind)
    ∙ ap (after_changes tag_cmp rows) (sym whole)
  where
    parts : (u w : ℕ) (es : List Entry) → u ≤ w → map entry_change (drop u es) ≡ map entry_change (drop u (take w es)) ++ map entry_change (drop w es)
    parts zero w es le = sym (halves w es)
    parts (suc u) zero es le = absurd (omega arith)
    parts (suc u) (suc w) [] le = refl
    parts (suc u) (suc w) (e ∷ es) le = parts u w es (omega arith)
