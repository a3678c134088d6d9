-- Leaves that are changed from the last one on.
use Rattle.std.proofs.Common.{◌≡◌, ℕ, zero, suc, ◌+◌, ◌-◌, ◌<◌, ◌≤◌, Bool, true, false, List, [], ◌∷◌, ◌++◌, length, take, drop, map, get_or, refl, sym, ap, subst, ◌∙◌, arith, append-nil, length-drop}
use Rattle.std.specs.Prelude.{Some, T, if◌then◌else◌, slice_get}
use Rattle.std.proofs.Math.Seq.{drop-length, take-nil, drop-nil}
use Rattle.std.proofs.lemmas.Option.{get_or_from_slice_get, slice_get_within}
use Rattle.std.proofs.lemmas.List.{length-take-le, take-append-drop, take-append-le}
use Rattle.std.specs.FinMap.{is_sorted}
use Rattle.std.specs.FinMap.Entries.{below_all}
use Rattle.std.specs.List.{prefix_len}
use Rattle.std.specs.Ordering.{is_lt}
use Rattle.df_value.specs.declared.cell.Cell.{Cell}
use Rattle.df_value.specs.declared.cell.CellType.{CellType}
use Rattle.df_column.specs.BlockLists.{blocks_of_leaves}
use Rattle.df_column.specs.Blocks.{AreOfDtypes, BlockParts, rows_of_blocks}
use Rattle.df_column.specs.Changes.{IsHead, after_changes, apart}
use Rattle.df_column.specs.Tables.{AreRising, entry_change}
use Rattle.df_column.specs.TagOrder.{tag_total}
use Rattle.df_column.specs.Tags.{tag_cmp}
use Rattle.df_column.specs.TreeChanges.{AreChangedBehind, AreChangedFrom}
use Rattle.df_column.specs.declared.entry.Entry.{Entry}
use Rattle.df_column.specs.declared.tag.Tag.{Tag}
use Rattle.df_column.proofs.BlockListLemmas.{leaves_append}
use Rattle.df_column.proofs.Bools.{T-both, T-first, T-second}
use Rattle.df_column.proofs.ChangedNodes.{no_leaves, node_changed}
use Rattle.df_column.proofs.ChangedParts.{apart_back, apart_both}
use Rattle.df_column.proofs.ChangedTrees.{types_cut_rest, types_cut_two}
use Rattle.df_column.proofs.ChangeRuns.{after_changes-right}
use Rattle.df_column.proofs.LeafOrder.{below_parts}
use Rattle.df_column.proofs.LeafTreeLemmas.{IsLeafOf, taken_leaves}
use Rattle.df_column.proofs.SharedLemmas.{rows_append, types_append}
use Rattle.df_column.proofs.TableChanges.{halves}
use Rattle.df_column.proofs.TagRuns.{sorted_right}

-- before any change
pub none_yet : (dtypes : List CellType) (ls ns : List (List BlockParts)) (es : List Entry) (n m : ℕ) → ns ≡ ls → n ≡ length ls → m ≡ length es → AreChangedBehind dtypes ls es ns n m
none_yet dtypes ls ns es n m same all whole =
    let gone : drop n ls ≡ [] = ap (λ k. drop k ls) all ∙ drop-length ls in
    let taken : take n ls ≡ ls = sym (append-nil (take n ls)) ∙ ap (λ ms. take n ls ++ ms) (sym gone) ∙ take-append-drop n ls in
    record {
      within = omega (arith, all);
      rest = [];
      is = same ∙ sym taken ∙ sym (append-nil (take n ls));
      changed = subst (AreChangedFrom dtypes (blocks_of_leaves (drop n ls)) es []) (sym whole) (no_leaves dtypes (blocks_of_leaves (drop n ls)) es (ap blocks_of_leaves gone));
    }

-- rows that stand before all changes behind them
front_apart : (ms ds : List (Tag × List Cell)) (es : List Entry) → T (is_sorted tag_cmp (ms ++ ds)) → ((t : Tag) → T (below_all tag_cmp t ds) → T (below_all tag_cmp t (map entry_change es))) → T (apart tag_cmp ms (map entry_change es))
front_apart [] ds es sorted behind = tt
front_apart (m ∷ ms) ds es sorted behind =
    T-both _ _ (behind m.0 (last_part m.0 ms ds (T-first _ _ sorted))) (front_apart ms ds es (T-second (below_all tag_cmp m.0 (ms ++ ds)) _ sorted) behind)
  where
    last_part : (k : Tag) (xs ys : List (Tag × List Cell)) → T (below_all tag_cmp k (xs ++ ys)) → T (below_all tag_cmp k ys)
    last_part k [] ys h = h
    last_part k (x ∷ xs) ys h = last_part k xs ys (T-second (is_lt (tag_cmp k x.0)) _ h)

-- blocks that no change reaches, before those that are changed
pub unchanged_front : (dtypes : List CellType) (m d nd : List BlockParts) (es : List Entry) (to : ℕ) → T (is_sorted tag_cmp (rows_of_blocks (m ++ d))) → AreOfDtypes dtypes m → T (apart tag_cmp (map entry_change (take to es)) (rows_of_blocks m)) → AreChangedFrom dtypes d es nd to
    → AreChangedFrom dtypes (m ++ d) es (m ++ nd) to
unchanged_front dtypes m d nd es to sorted types before h =
    let whole = rows_append m d in
    let front = front_apart (rows_of_blocks m) (rows_of_blocks d) (drop to es) (subst (λ rs. T (is_sorted tag_cmp rs)) whole sorted) h.behind in
    record {
      within = h.within;
      before = subst (λ rs. T (apart tag_cmp (map entry_change (take to es)) rs)) (sym whole) (apart_both (map entry_change (take to es)) (rows_of_blocks m) (rows_of_blocks d) before h.before);
      behind = λ t k. h.behind t (below_parts t m d k).1;
      rows = rows_append m nd ∙ ap (λ rs. rows_of_blocks m ++ rs) h.rows
          ∙ sym (after_changes-right tag_total (rows_of_blocks m) (rows_of_blocks d) (map entry_change (drop to es)) front)
          ∙ ap (λ rs. after_changes tag_cmp rs (map entry_change (drop to es))) (sym whole);
      types = types_append dtypes m nd types h.types;
    }

-- the same of the entries behind some that come before
dropped_twice : (n m : ℕ) (es : List Entry) → drop m (drop n es) ≡ drop (n + m) es
dropped_twice zero m es = let e : m ≡ 0 + m = omega arith in ap (λ k. drop k es) e
dropped_twice (suc n) m [] = drop-nil m ∙ sym (drop-nil (suc n + m))
dropped_twice (suc n) m (e ∷ es) = let k : suc (n + m) ≡ suc n + m = omega arith in dropped_twice n m es ∙ ap (λ i. drop i (e ∷ es)) k

taken_behind : (n m : ℕ) (es : List Entry) → take m (drop n es) ≡ drop n (take (n + m) es)
taken_behind zero m es = let e : m ≡ 0 + m = omega arith in ap (λ k. take k es) e
taken_behind (suc n) m [] = take-nil m ∙ sym (ap (drop (suc n)) (take-nil (suc n + m)))
taken_behind (suc n) m (e ∷ es) = let k : suc (n + m) ≡ suc n + m = omega arith in taken_behind n m es ∙ ap (λ i. drop (suc n) (take i (e ∷ es))) k

pub narrowed : (dtypes : List CellType) (d nd : List BlockParts) (es : List Entry) (n to : ℕ) → n ≤ to → AreChangedFrom dtypes d es nd to → AreChangedFrom dtypes d (drop n es) nd (to - n)
narrowed dtypes d nd es n to le h =
    let e : n + (to - n) ≡ to = omega (arith, le) in
    let l = length-drop n es in
    let later : drop (to - n) (drop n es) ≡ drop to es = dropped_twice n (to - n) es ∙ ap (λ k. drop k es) e in
    let first : take (to - n) (drop n es) ≡ drop n (take to es) = taken_behind n (to - n) es ∙ ap (λ k. drop n (take k es)) e in
    let both : map entry_change (take n (take to es)) ++ map entry_change (drop n (take to es)) ≡ map entry_change (take to es) = halves n (take to es) in
    record {
      within = let w = h.within in omega (arith, l, w, le);
      before = subst (λ fs. T (apart tag_cmp (map entry_change fs) (rows_of_blocks d))) (sym first)
          (apart_back (map entry_change (take n (take to es))) (map entry_change (drop n (take to es))) (rows_of_blocks d) (subst (λ cs. T (apart tag_cmp cs (rows_of_blocks d))) (sym both) h.before));
      behind = λ t k. subst (λ fs. T (below_all tag_cmp t (map entry_change fs))) (sym later) (h.behind t k);
      rows = h.rows ∙ ap (λ fs. after_changes tag_cmp (rows_of_blocks d) (map entry_change fs)) (sym later);
      types = h.types;
    }

-- a list of entries that starts with some before a tag
pub prefix_at : (p : Entry → Bool) (es : List Entry) (i : ℕ) (e : Entry) → i < length es → get_or es i e ≡ e → p e ≡ false → prefix_len p es ≤ i
prefix_at p [] i e lt is fails = omega arith
prefix_at p (f ∷ es) zero e lt is fails = first (p f) (ap p is ∙ fails) where
  first : (b : Bool) → b ≡ false → (if b then 1 + prefix_len p es else 0) ≤ 0
  first true h = absurd (cc h)
  first false h = omega arith
prefix_at p (f ∷ es) (suc i) e lt is fails = more (p f) (prefix_at p es i e (omega (arith, lt)) is fails) where
  more : (b : Bool) → prefix_len p es ≤ i → (if b then 1 + prefix_len p es else 0) ≤ suc i
  more true h = omega (arith, h)
  more false h = omega arith

-- where the last of the first entries is not before a tag
pub within_first : (p : Entry → Bool) (es : List Entry) (to n : ℕ) (e : Entry) → to ≤ length es → Some e ≡ slice_get (take to es) (length (take to es) - 1) → p e ≡ false → n ≡ prefix_len p es → n < to
within_first p es to n e le found fails is =
    let l = length-take-le to es le in
    let some = slice_get_within (take to es) (length (take to es) - 1) e (sym found) in
    let lt : to - 1 < to = omega (arith, l, some) in
    let here = get_or_from_slice_get (take to es) (length (take to es) - 1) e e (sym found) in
    let at : length (take to es) - 1 ≡ to - 1 = omega (arith, l) in
    let most = prefix_at p es (to - 1) e (omega (arith, le, lt)) (sym (taken (to - 1) to es lt) ∙ ap (λ i. get_or (take to es) i e) (sym at) ∙ here) fails in
    omega (arith, most, is, lt)
  where
    taken : (i n : ℕ) (xs : List Entry) → i < n → get_or (take n xs) i e ≡ get_or xs i e
    taken i zero xs lt = absurd (omega (arith, lt))
    taken i (suc n) [] lt = refl
    taken zero (suc n) (x ∷ xs) lt = refl
    taken (suc i) (suc n) (x ∷ xs) lt = taken i n xs (omega (arith, lt))

-- one leaf more is changed
module _ (dtypes : List CellType) (ls ns : List (List BlockParts)) (es : List Entry) (end to : ℕ) (h : AreChangedBehind dtypes ls es ns end to) (sorted : T (is_sorted tag_cmp (rows_of_blocks (blocks_of_leaves ls)))) (types : AreOfDtypes dtypes (blocks_of_leaves ls)) where
  -- the leaves between one and those that were changed
  abbrev pub middle : ℕ → List (List BlockParts)
  middle n = drop n (take end ls)

  parts : (n : ℕ) → n ≤ end → drop n ls ≡ middle n ++ drop end ls
  parts n le = cut n end ls le where
    cut : (n m : ℕ) (xs : List (List BlockParts)) → n ≤ m → drop n xs ≡ drop n (take m xs) ++ drop m xs
    cut zero m xs le = sym (take-append-drop m xs)
    cut (suc n) zero xs le = absurd (omega (arith, le))
    cut (suc n) (suc m) [] le = refl
    cut (suc n) (suc m) (x ∷ xs) le = cut n m xs (omega (arith, le))

  blocks_parts : (n : ℕ) → n ≤ end → blocks_of_leaves (drop n ls) ≡ blocks_of_leaves (middle n) ++ blocks_of_leaves (drop end ls)
  blocks_parts n le = ap blocks_of_leaves (parts n le) ∙ leaves_append (middle n) (drop end ls)

  sorted_from : (n : ℕ) → T (is_sorted tag_cmp (rows_of_blocks (blocks_of_leaves (drop n ls))))
  sorted_from n = sorted_right (blocks_of_leaves ls) (blocks_of_leaves (take n ls)) (blocks_of_leaves (drop n ls)) (taken_leaves n ls) sorted

  types_from : (n : ℕ) → AreOfDtypes dtypes (blocks_of_leaves (drop n ls))
  types_from n = types_cut_rest dtypes (blocks_of_leaves ls) (blocks_of_leaves (take n ls)) (blocks_of_leaves (drop n ls)) (taken_leaves n ls) types

  -- what stands from a leaf on, of which the entries that are left come before those up to the changed ones
  pub from_leaf : (n : ℕ) → n ≤ end → T (apart tag_cmp (map entry_change (take to es)) (rows_of_blocks (blocks_of_leaves (middle n)))) → AreChangedFrom dtypes (blocks_of_leaves (drop n ls)) es (blocks_of_leaves (middle n ++ h.rest)) to
  from_leaf n le before =
      let m = blocks_of_leaves (middle n) in
      let d = blocks_of_leaves (drop end ls) in
      let both = blocks_parts n le in
      let changed = unchanged_front dtypes m d (blocks_of_leaves h.rest) es to (subst (λ bs. T (is_sorted tag_cmp (rows_of_blocks bs))) both (sorted_from n)) (types_cut_two dtypes (blocks_of_leaves (drop n ls)) m d both (types_from n)) before h.changed in
      subst (λ old. AreChangedFrom dtypes old es (blocks_of_leaves (middle n ++ h.rest)) to) (sym both)
      (subst (λ new. AreChangedFrom dtypes (m ++ d) es new to) (sym (leaves_append (middle n) h.rest)) changed)

  -- all leaves, where no entry is left that goes into one
  pub all_changed : T (apart tag_cmp (map entry_change (take to es)) (rows_of_blocks (blocks_of_leaves (take end ls)))) → AreChangedFrom dtypes (blocks_of_leaves ls) es (blocks_of_leaves ns) to
  all_changed before = subst (λ new. AreChangedFrom dtypes (blocks_of_leaves ls) es (blocks_of_leaves new) to) (sym h.is) (from_leaf 0 (omega arith) before)

  module _ (at from : ℕ) (leaf : List BlockParts) (k : Tag) (within : at < end) (is : IsLeafOf ls at leaf) (head : IsHead (rows_of_blocks leaf) k) (rising : AreRising es)
      (count : from ≡ prefix_len (λ e. is_lt (tag_cmp e.tag k)) es) (le : from ≤ to) (before : T (apart tag_cmp (map entry_change (take to es)) (rows_of_blocks (blocks_of_leaves (middle (at + 1)))))) where
    pub one_changed : (made tree : List (List BlockParts)) → rows_of_blocks (blocks_of_leaves made) ≡ after_changes tag_cmp (rows_of_blocks leaf) (map entry_change (drop from (take to es))) → AreOfDtypes dtypes (blocks_of_leaves made) → tree ≡ take at ns ++ (made ++ drop (at + 1) ns)
        → AreChangedBehind dtypes ls es tree at from
    one_changed made tree rows of tree_is =
        let next : at + 1 ≤ end = omega (arith, within) in
        let mid = middle (at + 1) in
        let right = from_leaf (at + 1) next before in
        let old = blocks_of_leaves (drop (at + 1) ls) in
        let new = blocks_of_leaves (mid ++ h.rest) in
        let many : from ≤ length es = let w = h.changed.within in omega (arith, w, le) in
        let none = subst (AreChangedFrom dtypes [] (take from es) []) (length-take-le from es many) (no_leaves dtypes [] (take from es) refl) in
        let own : drop from (take to es) ≡ take (to - from) (drop from es) = let e : from + (to - from) ≡ to = omega (arith, le) in ap (λ n. drop from (take n es)) (sym e) ∙ sym (taken_behind from (to - from) es) in
        let all = leaf ++ old in
        let here : blocks_of_leaves (drop at ls) ≡ all = ap blocks_of_leaves is.rest in
        let sorted_here = subst (λ bs. T (is_sorted tag_cmp (rows_of_blocks bs))) here (sorted_from at) in
        let made_all : rows_of_blocks (blocks_of_leaves made ++ new) ≡ after_changes tag_cmp (rows_of_blocks leaf) (map entry_change (take (to - from) (drop from es))) ++ rows_of_blocks new
        = rows_append (blocks_of_leaves made) new ∙ ap (λ rs. rs ++ rows_of_blocks new) (rows ∙ ap (λ fs. after_changes tag_cmp (rows_of_blocks leaf) (map entry_change fs)) own) in
        let changed = node_changed dtypes all [] leaf old refl k es from from [] sorted_here head rising count none (to - from) new (blocks_of_leaves made ++ new) (narrowed dtypes old new es from to le right) made_all (types_append dtypes (blocks_of_leaves made) new of right.types) in
        record {
          within = let w = h.within in omega (arith, w, within);
          rest = made ++ (mid ++ h.rest);
          is = tree_is ∙ ap (λ n. take at n ++ (made ++ drop (at + 1) n)) h.is ∙ ap (λ ms. ms ++ (made ++ drop (at + 1) (take end ls ++ h.rest))) front ∙ ap (λ ms. take at ls ++ (made ++ ms)) back;
          changed = subst (λ bs. AreChangedFrom dtypes bs es (blocks_of_leaves (made ++ (mid ++ h.rest))) from) (sym here) (subst (λ bs. AreChangedFrom dtypes all es bs from) (sym (leaves_append made (mid ++ h.rest))) changed);
        }
      where
        long : length (take end ls) ≡ end
        long = length-take-le end ls h.within

        taken_twice : (n m : ℕ) (xs : List (List BlockParts)) → n ≤ m → take n (take m xs) ≡ take n xs
        taken_twice zero m xs le = refl
        taken_twice (suc n) zero xs le = absurd (omega (arith, le))
        taken_twice (suc n) (suc m) [] le = refl
        taken_twice (suc n) (suc m) (x ∷ xs) le = ap (λ ys. x ∷ ys) (taken_twice n m xs (omega (arith, le)))

        front : take at (take end ls ++ h.rest) ≡ take at ls
        front = take-append-le at (take end ls) h.rest (omega (arith, long, within)) ∙ taken_twice at end ls (omega (arith, within))

        drop_le : (n : ℕ) (xs ys : List (List BlockParts)) → n ≤ length xs → drop n (xs ++ ys) ≡ drop n xs ++ ys
        drop_le zero xs ys le = refl
        drop_le (suc n) [] ys le = absurd (omega (arith, le))
        drop_le (suc n) (x ∷ xs) ys le = drop_le n xs ys (omega (arith, le))

        back : drop (at + 1) (take end ls ++ h.rest) ≡ middle (at + 1) ++ h.rest
        back = drop_le (at + 1) (take end ls) h.rest (omega (arith, long, within))
