-- The block of a run in which a row with a tag can stand.
use Rattle.std.proofs.Common.{◌≡◌, ℕ, zero, suc, ◌+◌, ◌-◌, ◌<◌, ◌≤◌, Bool, true, false, not, List, [], ◌∷◌, ◌++◌, length, map, take, drop, get_or, refl, sym, ap, subst, ◌∙◌, arith, append-nil}
use Rattle.std.specs.Prelude.{IfNone, IfSome, None, Option, Some, T}
use Rattle.std.specs.List.Sorted.{IsPartitionPoint, IsPartitionedBy}
use Rattle.std.proofs.lemmas.List.{take-append-drop}
use Rattle.std.specs.FinMap.{is_sorted}
use Rattle.std.specs.FinMap.Entries.{below_all}
use Rattle.std.specs.Option.{SomeIff}
use Rattle.std.specs.Ordering.{is_gt, is_le, is_lt}
use Rattle.std.specs.declared.cmp.Ordering.{Ordering}
use Rattle.std.specs.declared.cmp.Ordering.TheVariants.{Less, Equal, Greater}
use Rattle.df_value.specs.declared.cell.Cell.{Cell}
use Rattle.df_column.specs.BlockLists.{HaveRows}
use Rattle.df_column.specs.Blocks.{BlockParts, block_rows, ends_of, rows_of_blocks}
use Rattle.df_column.specs.Bounds.{begins_behind}
use Rattle.df_column.specs.Changes.{IsHead}
use Rattle.df_column.specs.Columns.{column_cells}
use Rattle.df_column.specs.Places.{IsGap, IsPlace}
use Rattle.df_column.specs.Pools.{start_at}
use Rattle.df_column.specs.Rows.{tagged_rows}
use Rattle.df_column.specs.TableBlocks.{IsBlockOfTag, IsRunOfTag}
use Rattle.df_column.specs.TagOrder.{tag_total}
use Rattle.df_column.specs.Tags.{tag_cmp}
use Rattle.df_column.specs.declared.tag.Tag.{Tag}
use Rattle.df_column.proofs.Bools.{T-first, T-second}
use Rattle.df_column.proofs.ChangeRuns.{sorted_second}
use Rattle.df_column.proofs.LeafEnds.{start_there}
use Rattle.df_column.proofs.MergeLemmas.{drop_at}
use Rattle.df_column.proofs.Places.{mapped_at, mapped_length}
use Rattle.df_column.proofs.TagRuns.{above_first, gap_in_run, head_below, head_front, place_in_run, reached_below, sorted_run, tag_here}

-- where a block ends
pub end_behind_start : (n : ℕ) (bs : List BlockParts) (k e : ℕ) (d : BlockParts) → k < length bs → get_or (ends_of n bs) k e ≡ start_at n (ends_of n bs) k + length (get_or bs k d).tags
end_behind_start n [] k e d lt = absurd (omega arith)
end_behind_start n (b ∷ bs) zero e d lt = refl
end_behind_start n (b ∷ bs) (suc k) e d lt = end_behind_start (n + length b.tags) bs k e d (omega arith)

-- whether a block begins with a tag that is not above a tag
abbrev tags_begin_by : Tag → List Tag → Bool
tags_begin_by tag [] = false
tags_begin_by tag (t ∷ ts) = is_le (tag_cmp t tag)

abbrev pub begins_by : Tag → BlockParts → Bool
begins_by tag b = tags_begin_by tag b.tags

tags_begin_at_head : (tag first : Tag) (ts : List Tag) (columns : List (List Cell)) → IsHead (tagged_rows ts columns) first → is_le (tag_cmp first tag) ≡ tags_begin_by tag ts
tags_begin_at_head tag first [] columns h = absurd h
tags_begin_at_head tag first (t ∷ ts) columns h = ap (λ f. is_le (tag_cmp f tag)) (sym h)

pub begins_at_head : (tag first : Tag) (b : BlockParts) → IsHead (block_rows b) first → is_le (tag_cmp first tag) ≡ begins_by tag b
begins_at_head tag first b h = tags_begin_at_head tag first b.tags (map column_cells b.columns) h

record IsFirst (b : BlockParts) : Type 0 where
  tag : Tag
  head : IsHead (block_rows b) tag

first_of_tags : (ts : List Tag) (columns : List (List Cell)) → 0 < length ts → record { tag : Tag; head : IsHead (tagged_rows ts columns) tag }
first_of_tags [] columns h = absurd (omega arith)
first_of_tags (t ∷ ts) columns h = record { tag = t; head = refl }

first_of : (b : BlockParts) → 0 < length b.tags → IsFirst b
first_of b h = let f = first_of_tags b.tags (map column_cells b.columns) h in record { tag = f.tag; head = f.head }

rows_at : (bs : List BlockParts) (k : ℕ) (d : BlockParts) → HaveRows bs → k < length bs → 0 < length (get_or bs k d).tags
rows_at [] k d h lt = absurd (omega arith)
rows_at (b ∷ bs) zero d h lt = h.0
rows_at (b ∷ bs) (suc k) d h lt = rows_at bs k d h.1 (omega arith)

not_gt_if_le : (r : Ordering) → is_le r ≡ true → T (not (is_gt r))
not_gt_if_le Less h = tt
not_gt_if_le Equal h = tt
not_gt_if_le Greater h = cc h

gt_if_not_le : (r : Ordering) → is_le r ≡ false → is_gt r ≡ true
gt_if_not_le Less h = cc h
gt_if_not_le Equal h = cc h
gt_if_not_le Greater h = refl

-- later blocks begin with greater tags
below_second : (k : Tag) (xs ys : List (Tag × List Cell)) → T (below_all tag_cmp k (xs ++ ys)) → T (below_all tag_cmp k ys)
below_second k [] ys h = h
below_second k (x ∷ xs) ys h = below_second k xs ys (T-second (is_lt (tag_cmp k x.0)) _ h)

head_below_second : (xs ys : List (Tag × List Cell)) (k : Tag) → T (is_sorted tag_cmp (xs ++ ys)) → IsHead xs k → T (below_all tag_cmp k ys)
head_below_second [] ys k h head = absurd head
head_below_second (x ∷ xs) ys k h head = subst (λ t. T (below_all tag_cmp t ys)) head (below_second x.0 xs ys (T-first _ _ h))

block_above : (k first : Tag) (bs : List BlockParts) (j : ℕ) (d : BlockParts) → T (below_all tag_cmp k (rows_of_blocks bs)) → j < length bs → IsHead (block_rows (get_or bs j d)) first → tag_cmp k first ≡ Less
block_above k first [] j d h lt head = absurd (omega arith)
block_above k first (b ∷ bs) zero d h lt head = head_below k first [] (block_rows b ++ rows_of_blocks bs) h (head_front (block_rows b) (rows_of_blocks bs) first head)
block_above k first (b ∷ bs) (suc j) d h lt head = block_above k first bs j d (below_second k (block_rows b) (rows_of_blocks bs) h) (omega arith) head

sorted_rest : (b : BlockParts) (bs : List BlockParts) → T (is_sorted tag_cmp (rows_of_blocks (b ∷ bs))) → T (is_sorted tag_cmp (rows_of_blocks bs))
sorted_rest b bs h = sorted_second tag_total (block_rows b) (rows_of_blocks bs) h

-- so the blocks that begin with a tag not above a tag come first
pub blocks_parted : (tag : Tag) (bs : List BlockParts) → HaveRows bs → T (is_sorted tag_cmp (rows_of_blocks bs)) → IsPartitionedBy (begins_by tag) bs
blocks_parted tag [] some sorted i j d le lt h = absurd (omega arith)
blocks_parted tag (b ∷ bs) some sorted zero zero d le lt h = h
blocks_parted tag (b ∷ bs) some sorted zero (suc j) d le lt h =
    let f = first_of b some.0 in
    let g = first_of (get_or bs j d) (rows_at bs j d some.1 (omega arith)) in
    let less = block_above f.tag g.tag bs j d (head_below_second (block_rows b) (rows_of_blocks bs) f.tag sorted f.head) (omega arith) g.head in
    let begun : is_le (tag_cmp g.tag tag) ≡ true = begins_at_head tag g.tag (get_or bs j d) g.head ∙ h in
    let reached : tag_cmp f.tag tag ≡ Less = reached_below f.tag g.tag tag less (not_gt_if_le _ begun) in
    sym (begins_at_head tag f.tag b f.head) ∙ ap is_le reached
blocks_parted tag (b ∷ bs) some sorted (suc i) zero d le lt h = absurd (omega arith)
blocks_parted tag (b ∷ bs) some sorted (suc i) (suc j) d le lt h = blocks_parted tag bs some.1 (sorted_rest b bs sorted) i j d (omega arith) (omega arith) h

-- a partition of what is shared is one of the blocks
module _ {X Y : Type 0} (f : X → Y) (p : Y → Bool) where
  pub parted_of : (xs : List X) → IsPartitionedBy p (map f xs) → IsPartitionedBy (λ x. p (f x)) xs
  parted_of xs h i j d le lt e =
      let l = mapped_length f xs in
      ap p (sym (mapped_at f xs i (f d) d (omega arith))) ∙ h i j (f d) le (omega (arith, l, lt)) (ap p (mapped_at f xs j (f d) d lt) ∙ e)

  pub point_of : (xs : List X) (n : ℕ) → n ≤ length xs → IsPartitionPoint (λ x. p (f x) ≡ true) (λ x. p (f x) ≡ false) xs n → IsPartitionPoint (λ y. p y ≡ true) (λ y. p y ≡ false) (map f xs) n
  point_of [] n le parts = (λ j d low high. absurd (omega arith), λ j d low high. absurd (omega arith))
  point_of (x ∷ xs) n le parts =
      let l = mapped_length f (x ∷ xs) in (
        λ j d low high. ap p (mapped_at f (x ∷ xs) j d x (omega (arith, high, le))) ∙ parts.0 j x low high,
        λ j d low high. ap p (mapped_at f (x ∷ xs) j d x (omega (arith, l, high))) ∙ parts.1 j x low (omega (arith, l, high)),
      )

-- the rows from the first block on that begins above a tag
pub all_above : (tag : Tag) (bs : List BlockParts) (k : ℕ) → HaveRows bs → T (is_sorted tag_cmp (rows_of_blocks bs)) → ((d : BlockParts) → k < length bs → begins_by tag (get_or bs k d) ≡ false) → T (below_all tag_cmp tag (rows_of_blocks (drop k bs)))
all_above tag [] zero some sorted h = tt
all_above tag [] (suc k) some sorted h = tt
all_above tag (b ∷ bs) zero some sorted h =
    let f = first_of b some.0 in
    let behind : begins_behind (Some f.tag) tag ≡ true = gt_if_not_le _ (begins_at_head tag f.tag b f.head ∙ h b (omega arith)) in
    above_first (block_rows b ++ rows_of_blocks bs) f.tag tag sorted (head_front (block_rows b) (rows_of_blocks bs) f.tag f.head) behind
all_above tag (b ∷ bs) (suc k) some sorted h = all_above tag bs k some.1 (sorted_rest b bs sorted) (λ d lt. h d (omega arith))

-- the last block that begins by a tag
module _ (tag : Tag) (bs : List BlockParts) (n : ℕ) (le : n ≤ length bs) (some : HaveRows bs) (sorted : T (is_sorted tag_cmp (rows_of_blocks bs))) (parts : IsPartitionPoint (λ b. begins_by tag b ≡ true) (λ b. begins_by tag b ≡ false) bs n) where
  last_begun : (i : ℕ) → n ≡ i + 1 → IsBlockOfTag bs tag i
  last_begun i e = record {
    in_blocks = omega (arith, e, le);
    run = λ d.
        let inside : i < length bs = omega (arith, e, le) in
        let b = get_or bs i d in
        let f = first_of b (rows_at bs i d some inside) in
        let before = start_there 0 bs i (omega (arith, inside)) in
        let begun : is_le (tag_cmp f.tag tag) ≡ true = begins_at_head tag f.tag b f.head ∙ parts.0 i d (omega arith) (omega (arith, e)) in
        tag_here tag f.tag bs (take i bs) (b ∷ []) (drop (i + 1) bs) (start_at 0 (ends_of 0 bs) i)
        (sym (take-append-drop i bs) ∙ ap (λ cs. take i bs ++ cs) (drop_at bs i d inside)) sorted (omega (arith, before)) (head_front (block_rows b) [] f.tag f.head) (not_gt_if_le _ begun)
        (all_above tag bs (i + 1) some sorted (λ c lt. parts.1 (i + 1) c (omega (arith, e)) lt));
  }

  pub some_begun : (found : Option ℕ) → SomeIff found (1 ≤ n) (n - 1) → IfSome found (IsBlockOfTag bs tag)
  some_begun None h = tt
  some_begun (Some i) h = last_begun i (omega (arith, h.0, h.1))

  pub none_begun : (found : Option ℕ) → SomeIff found (1 ≤ n) (n - 1) → IfNone found (T (below_all tag_cmp tag (rows_of_blocks bs)))
  none_begun None h = all_above tag bs 0 some sorted (λ d lt. parts.1 0 d (none_up_to n h) lt) where
    none_up_to : (n : ℕ) → (1 ≤ n → ⊥) → n ≤ 0
    none_up_to zero h = omega arith
    none_up_to (suc n) h = absurd (h (omega arith))
  none_begun (Some i) h = tt

-- a place in the block is one among all rows
module _ (bs : List BlockParts) (tag : Tag) (at : ℕ) (b : BlockParts) (start : ℕ) (h : IsBlockOfTag bs tag at) (is : b ≡ get_or bs at b) (starts : start ≡ start_at 0 (ends_of 0 bs) at) where
  own_run : IsRunOfTag bs tag (b ∷ []) start
  own_run = subst (λ n. IsRunOfTag bs tag (b ∷ []) n) (sym starts) (subst (λ c. IsRunOfTag bs tag (c ∷ []) (start_at 0 (ends_of 0 bs) at)) (sym is) (h.run b))

  own_rows : rows_of_blocks (b ∷ []) ≡ block_rows b
  own_rows = append-nil (block_rows b)

  pub sorted_in_block : T (is_sorted tag_cmp (rows_of_blocks bs)) → T (is_sorted tag_cmp (block_rows b))
  sorted_in_block sorted = subst (λ rs. T (is_sorted tag_cmp rs)) own_rows (sorted_run bs (b ∷ []) tag start sorted own_run)

  pub place_in_block : (i : ℕ) → IsPlace tag_cmp (block_rows b) tag i → IsPlace tag_cmp (rows_of_blocks bs) tag (start + i)
  place_in_block i p = place_in_run bs (b ∷ []) tag start i own_run (subst (λ rs. IsPlace tag_cmp rs tag i) (sym own_rows) p)

  pub gap_in_block : (i : ℕ) → IsGap tag_cmp (block_rows b) tag i → IsGap tag_cmp (rows_of_blocks bs) tag (start + i)
  gap_in_block i g = gap_in_run bs (b ∷ []) tag start i own_run (subst (λ rs. IsGap tag_cmp rs tag i) (sym own_rows) g)
