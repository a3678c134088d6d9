-- Leaves that begin up to a tag.
use Rattle.std.proofs.Common.{◌≡◌, ℕ, zero, suc, ◌+◌, ◌<◌, ◌≤◌, Bool, true, false, List, [], ◌∷◌, ◌++◌, length, take, drop, get_or, min, nat_le, refl, sym, ap, subst, ◌∙◌, arith}
use Rattle.std.specs.Prelude.{Some, T, not, slice_get}
use Rattle.std.specs.FinMap.{is_sorted}
use Rattle.std.specs.FinMap.Entries.{below_all}
use Rattle.std.specs.List.{AllByRecursion}
use Rattle.std.specs.Ordering.{is_gt, is_lt}
use Rattle.std.specs.declared.cmp.Ordering.{Ordering}
use Rattle.std.specs.declared.cmp.Ordering.TheVariants.{Less, Equal, Greater}
use Rattle.std.proofs.lemmas.Bool.{leb-false, leb-true}
use Rattle.std.proofs.lemmas.List.{take-append-drop}
use Rattle.std.proofs.lemmas.Option.{get_or_from_slice_get, slice_get_within}
use Rattle.df_value.specs.declared.cell.Cell.{Cell}
use Rattle.df_tree.specs.Partitions.{IsPartitioned, IsPlace}
use Rattle.df_column.specs.BlockLists.{HaveRows, blocks_of_leaves, rows_in}
use Rattle.df_column.specs.Blocks.{BlockParts, block_rows, rows_of_blocks}
use Rattle.df_column.specs.Changes.{IsHead}
use Rattle.df_column.specs.LeafTrees.{AreFull, begins_up_to, reaches}
use Rattle.df_column.specs.TableBlocks.{IsRunOfTag}
use Rattle.df_column.specs.TagOrder.{tag_total}
use Rattle.df_column.specs.Tags.{tag_cmp}
use Rattle.df_column.specs.declared.tag.Tag.{Tag}
use Rattle.df_column.proofs.BlockListLemmas.{leaves_append}
use Rattle.df_column.proofs.Bools.{T-both, T-first, T-second, less_from_is_lt}
use Rattle.df_column.proofs.LeafTreeLemmas.{IsLeafOf, full_drop, taken_leaves}
use Rattle.df_column.proofs.ListParts.{none_between}
use Rattle.df_column.proofs.Places.{flipped}
use Rattle.df_column.proofs.SharedLemmas.{rows_append}
use Rattle.df_column.proofs.SpotLemmas.{block_length}
use Rattle.df_column.proofs.TagRuns.{above_first, blocks_head, sorted_right, tag_here}

-- the first row of a leaf
pub record HasHead (leaf : List BlockParts) : Type 0 where
  pub first : Tag
  pub head : IsHead (rows_of_blocks leaf) first

head_of_rows : (rows : List (Tag × List Cell)) → 0 < length rows → record { first : Tag; head : IsHead rows first }
head_of_rows [] h = absurd (omega (arith, h))
head_of_rows (r ∷ rows) h = record { first = r.0; head = refl }

pub has_head : (leaf : List BlockParts) → 0 < length leaf → HaveRows leaf → HasHead leaf
has_head [] h rows = absurd (omega (arith, h))
has_head (b ∷ leaf) h rows =
    let n = block_length b in
    let found = head_of_rows (block_rows b ++ rows_of_blocks leaf) (longer (block_rows b) (rows_of_blocks leaf) (omega (arith, n, rows.0))) in
    record { first = found.first; head = found.head }
  where
    longer : (xs ys : List (Tag × List Cell)) → 0 < length xs → 0 < length (xs ++ ys)
    longer [] ys h = absurd (omega (arith, h))
    longer (x ∷ xs) ys h = omega arith

-- a leaf that begins at a tag
reaches_at : (rows : List (Tag × List Cell)) (first tag : Tag) → IsHead rows first → begins_up_to tag rows ≡ not (is_gt (tag_cmp first tag))
reaches_at [] first tag h = absurd h
reaches_at (r ∷ rows) first tag h = ap (λ t. not (is_gt (tag_cmp t tag))) h

pub reaches_is : (leaf : List BlockParts) (first tag : Tag) → IsHead (rows_of_blocks leaf) first → reaches tag leaf ≡ not (is_gt (tag_cmp first tag))
reaches_is leaf first tag h = reaches_at (rows_of_blocks leaf) first tag h

greater_from : (r : Ordering) → not (is_gt r) ≡ false → is_gt r ≡ true
greater_from Less h = absurd (cc h)
greater_from Equal h = absurd (cc h)
greater_from Greater h = refl

not_reached : (rows : List (Tag × List Cell)) (tag : Tag) → 0 < length rows → T (below_all tag_cmp tag rows) → begins_up_to tag rows ≡ false
not_reached [] tag n h = absurd (omega (arith, n))
not_reached (r ∷ rows) tag n h =
    let less : tag_cmp tag r.0 ≡ Less = less_from_is_lt (tag_cmp tag r.0) (T-first _ _ h) in
    ap (λ o. not (is_gt o)) (flipped tag_total tag r.0 Less less)

-- rows of the first blocks, and of those behind them
below_front : (k : Tag) (xs ys : List (Tag × List Cell)) → T (below_all tag_cmp k (xs ++ ys)) → T (below_all tag_cmp k xs)
below_front k [] ys h = tt
below_front k (x ∷ xs) ys h = T-both _ _ (T-first (is_lt (tag_cmp k x.0)) _ h) (below_front k xs ys (T-second (is_lt (tag_cmp k x.0)) _ h))

below_back : (k : Tag) (xs ys : List (Tag × List Cell)) → T (below_all tag_cmp k (xs ++ ys)) → T (below_all tag_cmp k ys)
below_back k [] ys h = h
below_back k (x ∷ xs) ys h = below_back k xs ys (T-second (is_lt (tag_cmp k x.0)) _ h)

pub below_parts : (k : Tag) (a b : List BlockParts) → T (below_all tag_cmp k (rows_of_blocks (a ++ b))) → T (below_all tag_cmp k (rows_of_blocks a)) × T (below_all tag_cmp k (rows_of_blocks b))
below_parts k a b h =
    let both = subst (λ rs. T (below_all tag_cmp k rs)) (rows_append a b) h in
    (below_front k (rows_of_blocks a) (rows_of_blocks b) both, below_back k (rows_of_blocks a) (rows_of_blocks b) both)

rows_some : (leaf : List BlockParts) → 0 < length leaf → HaveRows leaf → 0 < length (rows_of_blocks leaf)
rows_some leaf n some = let h = has_head leaf n some in longer (rows_of_blocks leaf) h.first h.head where
  longer : (rows : List (Tag × List Cell)) (first : Tag) → IsHead rows first → 0 < length rows
  longer [] first h = absurd h
  longer (r ∷ rows) first h = omega arith

-- leaves whose rows all stand behind a tag
none_reach : (tag : Tag) (ls : List (List BlockParts)) → AreFull ls → T (below_all tag_cmp tag (rows_of_blocks (blocks_of_leaves ls))) → AllByRecursion (λ l. reaches tag l ≡ false) ls
none_reach tag [] full h = tt
none_reach tag (l ∷ ls) full h =
    let both = below_parts tag l (blocks_of_leaves ls) h in
    (not_reached (rows_of_blocks l) tag (rows_some l full.0.0 full.0.1) both.0, none_reach tag ls full.1 both.1)

pub above_leaves : (tag : Tag) (ls : List (List BlockParts)) → AreFull ls → T (is_sorted tag_cmp (rows_of_blocks (blocks_of_leaves ls))) → AllByRecursion (λ l. reaches tag l ≡ false) ls → T (below_all tag_cmp tag (rows_of_blocks (blocks_of_leaves ls)))
above_leaves tag [] full sorted h = tt
above_leaves tag (l ∷ ls) full sorted h =
    let head = has_head l full.0.0 full.0.1 in
    above_first (rows_of_blocks (l ++ blocks_of_leaves ls)) head.first tag sorted (blocks_head l (blocks_of_leaves ls) head.first head.head)
    (greater_from (tag_cmp head.first tag) (sym (reaches_is l head.first tag head.head) ∙ h.0))

-- sorted leaves are parted by a tag
pub parted : (tag : Tag) (ls : List (List BlockParts)) → AreFull ls → T (is_sorted tag_cmp (rows_of_blocks (blocks_of_leaves ls))) → IsPartitioned (reaches tag) ls
parted tag [] full sorted = tt
parted tag (l ∷ ls) full sorted =
    let all = l ++ blocks_of_leaves ls in (
      (λ h. let head = has_head l full.0.0 full.0.1 in
          let above = above_first (rows_of_blocks all) head.first tag sorted (blocks_head l (blocks_of_leaves ls) head.first head.head) (greater_from (tag_cmp head.first tag) (sym (reaches_is l head.first tag head.head) ∙ h)) in
          none_reach tag ls full.1 (below_parts tag l (blocks_of_leaves ls) above).1),
      parted tag ls full.1 (sorted_right all l (blocks_of_leaves ls) refl sorted),
    )

-- one of the leaves for which it holds
pub place_before : {X : Type 0} (p : X → Bool) (xs : List X) (n i : ℕ) (x : X) → AllByRecursion (λ x. p x ≡ true) (take n xs) → i < n → slice_get xs i ≡ Some x → p x ≡ true
place_before p xs n i x h lt found = at xs n i h lt (slice_get_within xs i x found) (get_or_from_slice_get xs i x x found) where
  at : (ys : List _) (n i : ℕ) → AllByRecursion (λ x. p x ≡ true) (take n ys) → i < n → i < length ys → get_or ys i x ≡ x → p x ≡ true
  at [] n i h lt within is = absurd (omega (arith, within))
  at (y ∷ ys) zero i h lt within is = absurd (omega (arith, lt))
  at (y ∷ ys) (suc n) zero h lt within is = ap p (sym is) ∙ h.0
  at (y ∷ ys) (suc n) (suc i) h lt within is = at ys n i h.1 (omega (arith, lt)) (omega (arith, within)) is

pub full_at : (ls : List (List BlockParts)) (i : ℕ) (leaf : List BlockParts) → AreFull ls → i < length ls → slice_get ls i ≡ Some leaf → (0 < length leaf) × HaveRows leaf
full_at ls i leaf full lt found = at ls i full lt (get_or_from_slice_get ls i leaf leaf found) where
  at : (ms : List (List BlockParts)) (i : ℕ) → AreFull ms → i < length ms → get_or ms i leaf ≡ leaf → (0 < length leaf) × HaveRows leaf
  at [] i full lt is = absurd (omega (arith, lt))
  at (m ∷ ms) zero full lt is = subst (λ l. (0 < length l) × HaveRows l) is full.0
  at (m ∷ ms) (suc i) full lt is = at ms i full.1 (omega (arith, lt)) is

sorted_behind : (n : ℕ) (ls : List (List BlockParts)) → T (is_sorted tag_cmp (rows_of_blocks (blocks_of_leaves ls))) → T (is_sorted tag_cmp (rows_of_blocks (blocks_of_leaves (drop n ls))))
sorted_behind n ls h = sorted_right (blocks_of_leaves ls) (blocks_of_leaves (take n ls)) (blocks_of_leaves (drop n ls)) (taken_leaves n ls) h

pub above_place : (tag : Tag) (ls : List (List BlockParts)) (count : ℕ) → AreFull ls → T (is_sorted tag_cmp (rows_of_blocks (blocks_of_leaves ls))) → IsPlace (reaches tag) ls count → T (below_all tag_cmp tag (rows_of_blocks (blocks_of_leaves (drop count ls))))
above_place tag ls count full sorted h = above_leaves tag (drop count ls) (full_drop count ls full) (sorted_behind count ls sorted) h.behind

-- the last leaf that begins up to the tag
pub run_in_last : (tag : Tag) (ls : List (List BlockParts)) (at rows : ℕ) (leaf : List BlockParts) → AreFull ls → T (is_sorted tag_cmp (rows_of_blocks (blocks_of_leaves ls))) → IsPlace (reaches tag) ls (at + 1) → IsLeafOf ls at leaf → 0 < length leaf → HaveRows leaf → reaches tag leaf ≡ true
    → rows ≡ rows_in (blocks_of_leaves (take at ls)) → IsRunOfTag (blocks_of_leaves ls) tag leaf rows
run_in_last tag ls at rows leaf full sorted place is some have reached rows_are =
    let head = has_head leaf some have in
    tag_here tag head.first (blocks_of_leaves ls) (blocks_of_leaves (take at ls)) leaf (blocks_of_leaves (drop (at + 1) ls)) rows is.cut sorted rows_are head.head
    (subst (λ b. T b) (sym reached ∙ reaches_is leaf head.first tag head.head) tt)
    (above_place tag ls (at + 1) full sorted place)

-- the leaves before one that begins behind the tag, from the first such one on
pub above_between : (tag : Tag) (ls : List (List BlockParts)) (count end n : ℕ) → AreFull ls → T (is_sorted tag_cmp (rows_of_blocks (blocks_of_leaves ls))) → IsPlace (reaches tag) ls count → n ≡ min count end
    → T (below_all tag_cmp tag (rows_of_blocks (blocks_of_leaves (drop n (take end ls)))))
above_between tag ls count end n full sorted place is = by_case (nat_le count end) refl where
  cut : (n m : ℕ) (xs : List (List BlockParts)) → n ≤ m → drop n xs ≡ drop n (take m xs) ++ drop m xs
  cut zero m xs le = sym (take-append-drop m xs)
  cut (suc n) zero xs le = absurd (omega (arith, le))
  cut (suc n) (suc m) [] le = refl
  cut (suc n) (suc m) (x ∷ xs) le = cut n m xs (omega (arith, le))

  by_case : (b : Bool) → nat_le count end ≡ b → T (below_all tag_cmp tag (rows_of_blocks (blocks_of_leaves (drop n (take end ls)))))
  by_case true e =
      let le = leb-true count end e in
      let same : n ≡ count = omega (arith, is, le) in
      let all = above_place tag ls count full sorted place in
      let both = ap blocks_of_leaves (cut count end ls le) ∙ leaves_append (drop count (take end ls)) (drop end ls) in
      subst (λ i. T (below_all tag_cmp tag (rows_of_blocks (blocks_of_leaves (drop i (take end ls)))))) (sym same)
      (below_parts tag (blocks_of_leaves (drop count (take end ls))) (blocks_of_leaves (drop end ls)) (subst (λ bs. T (below_all tag_cmp tag (rows_of_blocks bs))) both all)).0
  by_case false e =
      let more = leb-false count end e in
      let same : n ≡ end = omega (arith, is, more) in
      subst (λ ms. T (below_all tag_cmp tag (rows_of_blocks (blocks_of_leaves ms)))) (sym (ap (λ i. drop i (take end ls)) same ∙ none_between ls end)) tt

-- a tag that a leaf does not begin behind is not below its first one
pub not_below : (first tag : Tag) → T (not (is_gt (tag_cmp first tag))) → is_lt (tag_cmp tag first) ≡ false
not_below first tag h = by_case (tag_cmp tag first) refl where
  by_case : (r : Ordering) → tag_cmp tag first ≡ r → is_lt r ≡ false
  by_case Less e = absurd (subst (λ o. T (not (is_gt o))) (flipped tag_total tag first Less e) h)
  by_case Equal e = refl
  by_case Greater e = refl
