-- The run of blocks in which a row with a tag can stand, and the place of the tag among all rows.
use Rattle.std.proofs.Common.{◌≡◌, ℕ, zero, suc, ◌+◌, ◌-◌, ◌<◌, ◌≤◌, Bool, true, false, List, [], ◌∷◌, ◌++◌, length, get_or, nat_lt, refl, sym, ap, subst, ◌∙◌, arith, append_assoc, length-append}
use Rattle.std.specs.Prelude.{IfNone, IfSome, Option, Some, None, T, not}
use Rattle.std.proofs.lemmas.Bool.{ltb-false, ltb-true}
use Rattle.std.specs.FinMap.{is_sorted}
use Rattle.std.specs.FinMap.Entries.{below_all}
use Rattle.std.specs.Option.{is_some}
use Rattle.std.specs.Ordering.{is_gt, is_lt}
use Rattle.std.specs.declared.cmp.Ordering.{Ordering}
use Rattle.std.specs.declared.cmp.Ordering.TheVariants.{Less, Equal, Greater}
use Rattle.df_value.specs.declared.cell.Cell.{Cell}
use Rattle.df_column.specs.Blocks.{BlockParts, rows_of_blocks}
use Rattle.df_column.specs.Bounds.{begins_behind}
use Rattle.df_column.specs.Changes.{IsHead, IsNext, all_under}
use Rattle.df_column.specs.Places.{IsGap, IsPlace}
use Rattle.df_column.specs.TableBlocks.{IsRunOfTag}
use Rattle.df_column.specs.TagOrder.{tag_same, tag_total}
use Rattle.df_column.specs.Tags.{tag_cmp}
use Rattle.df_column.specs.declared.tag.Tag.{Tag}
use Rattle.df_column.proofs.Bools.{T-both, T-first, T-second, less_from_is_lt}
use Rattle.df_column.proofs.ChangeRuns.{below_trans, sorted_first, sorted_second}
use Rattle.df_column.proofs.Places.{flipped}
use Rattle.df_column.proofs.SharedLemmas.{rows_append}
use Rattle.df_column.proofs.SpotLemmas.{get_back, get_front}

-- comparisons
greater : (r : Ordering) → is_gt r ≡ true → r ≡ Greater
greater Less h = cc
greater Equal h = cc
greater Greater h = refl

pub reached_below : (a b c : Tag) → tag_cmp a b ≡ Less → T (not (is_gt (tag_cmp b c))) → tag_cmp a c ≡ Less
reached_below a b c h k = step (tag_cmp b c) refl k where
  step : (r : Ordering) → tag_cmp b c ≡ r → T (not (is_gt r)) → tag_cmp a c ≡ Less
  step Less e k = tag_total.trans a b c h e
  step Equal e k = ap (tag_cmp a) (sym (tag_same b c e)) ∙ h
  step Greater e k = absurd k

lt_from_less : (r : Ordering) → r ≡ Less → T (is_lt r)
lt_from_less r e = subst (λ r. T (is_lt r)) (sym e) tt

-- rows that begin above a tag, and rows before one that is not above it
pub above_first : (rows : List (Tag × List Cell)) (first tag : Tag) → T (is_sorted tag_cmp rows) → IsHead rows first → begins_behind (Some first) tag ≡ true → T (below_all tag_cmp tag rows)
above_first [] first tag sorted h k = absurd h
above_first (r ∷ rows) first tag sorted h k =
    let less : tag_cmp tag r.0 ≡ Less = flipped tag_total r.0 tag Greater (ap (λ t. tag_cmp t tag) h ∙ greater (tag_cmp first tag) k) in
    T-both _ _ (lt_from_less (tag_cmp tag r.0) less) (below_trans tag_total tag r.0 rows less (T-first _ _ sorted))

pub head_below : (k first : Tag) (xs ys : List (Tag × List Cell)) → T (below_all tag_cmp k (xs ++ ys)) → IsHead ys first → tag_cmp k first ≡ Less
head_below k first [] [] h head = absurd head
head_below k first [] (y ∷ ys) h head = ap (tag_cmp k) (sym head) ∙ less_from_is_lt (tag_cmp k y.0) (T-first _ _ h)
head_below k first (x ∷ xs) ys h head = head_below k first xs ys (T-second (is_lt (tag_cmp k x.0)) _ h) head

pub under_first : (xs ys : List (Tag × List Cell)) (first tag : Tag) → T (is_sorted tag_cmp (xs ++ ys)) → IsHead ys first → T (not (is_gt (tag_cmp first tag))) → T (all_under tag_cmp tag xs)
under_first [] ys first tag sorted head k = tt
under_first (x ∷ xs) ys first tag sorted head k =
    T-both _ _ (lt_from_less (tag_cmp x.0 tag) (reached_below x.0 first tag (head_below x.0 first xs ys (T-first _ _ sorted) head) k))
    (under_first xs ys first tag (T-second (below_all tag_cmp x.0 (xs ++ ys)) _ sorted) head k)

pub below_both : (k : Tag) (xs ys : List (Tag × List Cell)) → T (below_all tag_cmp k xs) → T (below_all tag_cmp k ys) → T (below_all tag_cmp k (xs ++ ys))
below_both k [] ys p q = q
below_both k (x ∷ xs) ys p q = T-both _ _ (T-first (is_lt (tag_cmp k x.0)) _ p) (below_both k xs ys (T-second (is_lt (tag_cmp k x.0)) _ p) q)

pub head_front : (xs ys : List (Tag × List Cell)) (k : Tag) → IsHead xs k → IsHead (xs ++ ys) k
head_front [] ys k h = absurd h
head_front (x ∷ xs) ys k h = h

-- the same of blocks
sorted_back : (bs cs : List BlockParts) → T (is_sorted tag_cmp (rows_of_blocks (bs ++ cs))) → T (is_sorted tag_cmp (rows_of_blocks cs))
sorted_back bs cs h = sorted_second tag_total (rows_of_blocks bs) (rows_of_blocks cs) (subst (λ rs. T (is_sorted tag_cmp rs)) (rows_append bs cs) h)

sorted_front : (bs cs : List BlockParts) → T (is_sorted tag_cmp (rows_of_blocks (bs ++ cs))) → T (is_sorted tag_cmp (rows_of_blocks bs))
sorted_front bs cs h = sorted_first tag_total (rows_of_blocks bs) (rows_of_blocks cs) (subst (λ rs. T (is_sorted tag_cmp rs)) (rows_append bs cs) h)

pub blocks_above : (tag : Tag) (bs cs : List BlockParts) → T (below_all tag_cmp tag (rows_of_blocks bs)) → T (below_all tag_cmp tag (rows_of_blocks cs)) → T (below_all tag_cmp tag (rows_of_blocks (bs ++ cs)))
blocks_above tag bs cs p q = subst (λ rs. T (below_all tag_cmp tag rs)) (sym (rows_append bs cs)) (below_both tag (rows_of_blocks bs) (rows_of_blocks cs) p q)

blocks_under : (tag first : Tag) (bs cs : List BlockParts) → T (is_sorted tag_cmp (rows_of_blocks (bs ++ cs))) → IsHead (rows_of_blocks cs) first → T (not (is_gt (tag_cmp first tag))) → T (all_under tag_cmp tag (rows_of_blocks bs))
blocks_under tag first bs cs sorted head k = under_first (rows_of_blocks bs) (rows_of_blocks cs) first tag (subst (λ rs. T (is_sorted tag_cmp rs)) (rows_append bs cs) sorted) head k

pub blocks_head : (bs cs : List BlockParts) (k : Tag) → IsHead (rows_of_blocks bs) k → IsHead (rows_of_blocks (bs ++ cs)) k
blocks_head bs cs k h = subst (λ rs. IsHead rs k) (sym (rows_append bs cs)) (head_front (rows_of_blocks bs) (rows_of_blocks cs) k h)

pub sorted_left : (all a b : List BlockParts) → all ≡ a ++ b → T (is_sorted tag_cmp (rows_of_blocks all)) → T (is_sorted tag_cmp (rows_of_blocks a))
sorted_left all a b e h = sorted_front a b (subst (λ bs. T (is_sorted tag_cmp (rows_of_blocks bs))) e h)

pub sorted_right : (all a b : List BlockParts) → all ≡ a ++ b → T (is_sorted tag_cmp (rows_of_blocks all)) → T (is_sorted tag_cmp (rows_of_blocks b))
sorted_right all a b e h = sorted_back a b (subst (λ bs. T (is_sorted tag_cmp (rows_of_blocks bs))) e h)

-- what an answer says of it
pub if_some : {X : Type 0} {P Q : X → Type 0} (o : Option X) → ((x : X) → P x → Q x) → IfSome o P → IfSome o Q
if_some None f h = tt
if_some (Some x) f h = f x h

pub if_none : {X P Q : Type 0} (o : Option X) → (P → Q) → IfNone o P → IfNone o Q
if_none None f h = f h
if_none (Some x) f h = tt

-- a run without a first tag has no rows
pub none_above : (tag : Tag) (first : Option Tag) (b : List BlockParts) → is_some first ≡ false → IsNext (rows_of_blocks b) first → T (below_all tag_cmp tag (rows_of_blocks b))
none_above tag None b k next = subst (λ rs. T (below_all tag_cmp tag rs)) (sym next) tt
none_above tag (Some first) b k next = absurd (cc k)

pub behind_above : (tag : Tag) (first : Option Tag) (b : List BlockParts) → begins_behind first tag ≡ true → T (is_sorted tag_cmp (rows_of_blocks b)) → IsNext (rows_of_blocks b) first → T (below_all tag_cmp tag (rows_of_blocks b))
behind_above tag None b k sorted next = absurd (cc k)
behind_above tag (Some first) b k sorted next = above_first (rows_of_blocks b) first tag sorted next k

-- the first tag, which is not above the tag
pub record IsReached (tag : Tag) (b : List BlockParts) : Type 0 where
  pub first : Tag
  pub head : IsHead (rows_of_blocks b) first
  pub reached : T (not (is_gt (tag_cmp first tag)))

pub first_reached : (tag : Tag) (first : Option Tag) (b : List BlockParts) → is_some first ≡ true → begins_behind first tag ≡ false → IsNext (rows_of_blocks b) first → IsReached tag b
first_reached tag None b n k next = absurd (cc n)
first_reached tag (Some first) b n k next = record { first = first; head = next; reached = subst (λ r. T (not r)) (sym k) tt }

pub none_in : (tag : Tag) (all a b : List BlockParts) → all ≡ a ++ b → T (below_all tag_cmp tag (rows_of_blocks a)) → T (below_all tag_cmp tag (rows_of_blocks b)) → T (below_all tag_cmp tag (rows_of_blocks all))
none_in tag all a b e p q = subst (λ bs. T (below_all tag_cmp tag (rows_of_blocks bs))) (sym e) (blocks_above tag a b p q)

-- the run of a tag in the first blocks, in a leaf, and in the blocks behind it
pub tag_left : (tag : Tag) (all a b run : List BlockParts) (before : ℕ) → all ≡ a ++ b → T (below_all tag_cmp tag (rows_of_blocks b)) → IsRunOfTag a tag run before → IsRunOfTag all tag run before
tag_left tag all a b run before e k h = record {
  front = h.front;
  rest = h.rest ++ b;
  cut = e ∙ ap (λ bs. bs ++ b) h.cut ∙ append_assoc h.front (run ++ h.rest) b ∙ ap (λ bs. h.front ++ bs) (append_assoc run h.rest b);
  rows_are = h.rows_are;
  below = h.below;
  above = blocks_above tag h.rest b h.above k;
  first = h.first;
  head = h.head;
  reached = h.reached;
}

pub tag_here : (tag first : Tag) (all a b d : List BlockParts) (before : ℕ) → all ≡ a ++ (b ++ d) → T (is_sorted tag_cmp (rows_of_blocks all)) → before ≡ length (rows_of_blocks a) → IsHead (rows_of_blocks b) first → T (not (is_gt (tag_cmp first tag)))
    → T (below_all tag_cmp tag (rows_of_blocks d)) → IsRunOfTag all tag b before
tag_here tag first all a b d before e sorted n head k above = record {
  front = a;
  rest = d;
  cut = e;
  rows_are = n;
  below = blocks_under tag first a (b ++ d) (subst (λ bs. T (is_sorted tag_cmp (rows_of_blocks bs))) e sorted) (blocks_head b d first head) k;
  above = above;
  first = first;
  head = head;
  reached = k;
}

pub tag_right : (tag : Tag) (all a b run : List BlockParts) (off before : ℕ) → all ≡ a ++ b → T (is_sorted tag_cmp (rows_of_blocks all)) → before ≡ length (rows_of_blocks a) + off → IsRunOfTag b tag run off → IsRunOfTag all tag run before
tag_right tag all a b run off before e sorted n h =
    let cut : all ≡ (a ++ h.front) ++ (run ++ h.rest) = e ∙ ap (λ bs. a ++ bs) h.cut ∙ sym (append_assoc a h.front (run ++ h.rest)) in
    let rows = ap length (rows_append a h.front) in
    let sum = length-append (rows_of_blocks a) (rows_of_blocks h.front) in
    record {
      front = a ++ h.front;
      rest = h.rest;
      cut = cut;
      rows_are = omega (arith, n, rows, sum, h.rows_are);
      below = blocks_under tag h.first (a ++ h.front) (run ++ h.rest) (subst (λ bs. T (is_sorted tag_cmp (rows_of_blocks bs))) cut sorted) (blocks_head run h.rest h.first h.head) h.reached;
      above = h.above;
      first = h.first;
      head = h.head;
      reached = h.reached;
    }

-- a place in the run is one among all rows
under_at : (rows : List (Tag × List Cell)) (tag : Tag) (j : ℕ) (d : Tag × List Cell) → T (all_under tag_cmp tag rows) → j < length rows → tag_cmp (get_or rows j d).0 tag ≡ Less
under_at [] tag j d h lt = absurd (omega arith)
under_at (r ∷ rows) tag zero d h lt = less_from_is_lt _ (T-first _ _ h)
under_at (r ∷ rows) tag (suc j) d h lt = under_at rows tag j d (T-second (is_lt (tag_cmp r.0 tag)) _ h) (omega arith)

above_at : (rows : List (Tag × List Cell)) (tag : Tag) (j : ℕ) (d : Tag × List Cell) → T (below_all tag_cmp tag rows) → j < length rows → tag_cmp (get_or rows j d).0 tag ≡ Greater
above_at [] tag j d h lt = absurd (omega arith)
above_at (r ∷ rows) tag zero d h lt = flipped tag_total tag r.0 Less (less_from_is_lt _ (T-first _ _ h))
above_at (r ∷ rows) tag (suc j) d h lt = above_at rows tag j d (T-second (is_lt (tag_cmp tag r.0)) _ h) (omega arith)

pub sorted_run : (blocks run : List BlockParts) (tag : Tag) (before : ℕ) → T (is_sorted tag_cmp (rows_of_blocks blocks)) → IsRunOfTag blocks tag run before → T (is_sorted tag_cmp (rows_of_blocks run))
sorted_run blocks run tag before sorted h = sorted_front run h.rest (sorted_back h.front (run ++ h.rest) (subst (λ bs. T (is_sorted tag_cmp (rows_of_blocks bs))) h.cut sorted))

all_rows : (blocks run : List BlockParts) (tag : Tag) (before : ℕ) (h : IsRunOfTag blocks tag run before) → rows_of_blocks blocks ≡ rows_of_blocks h.front ++ (rows_of_blocks run ++ rows_of_blocks h.rest)
all_rows blocks run tag before h = ap rows_of_blocks h.cut ∙ rows_append h.front (run ++ h.rest) ∙ ap (λ rs. rows_of_blocks h.front ++ rs) (rows_append run h.rest)

pub place_in_run : (blocks run : List BlockParts) (tag : Tag) (before i : ℕ) → IsRunOfTag blocks tag run before → IsPlace tag_cmp (rows_of_blocks run) tag i → IsPlace tag_cmp (rows_of_blocks blocks) tag (before + i)
place_in_run blocks run tag before i h p =
    let front = rows_of_blocks h.front in
    let mid = rows_of_blocks run in
    let rest = rows_of_blocks h.rest in
    let x = length-append front (mid ++ rest) in
    let y = length-append mid rest in
    subst (λ rs. IsPlace tag_cmp rs tag (before + i)) (sym (all_rows blocks run tag before h)) (record {
      in_range = omega (arith, x, y, h.rows_are, p.in_range);
      here = λ d. ap (λ r. tag_cmp r.0 tag) (get_back front (mid ++ rest) (before + i) i d (omega (arith, h.rows_are)) ∙ get_front mid rest i d p.in_range) ∙ p.here d;
    })

gap_before : (front mid rest : List (Tag × List Cell)) (tag : Tag) (n i : ℕ) → n ≡ length front → T (all_under tag_cmp tag front) → IsGap tag_cmp mid tag i → (j : ℕ) (d : Tag × List Cell) → j < n + i → tag_cmp (get_or (front ++ (mid ++ rest)) j d).0 tag ≡ Less
gap_before front mid rest tag n i e below p j d lt = step (nat_lt j n) refl where
  step : (b : Bool) → nat_lt j n ≡ b → tag_cmp (get_or (front ++ (mid ++ rest)) j d).0 tag ≡ Less
  step true t =
      let h = ltb-true j n t in
      ap (λ r. tag_cmp r.0 tag) (get_front front (mid ++ rest) j d (omega (arith, e, h))) ∙ under_at front tag j d below (omega (arith, e, h))
  step false t =
      let h = ltb-false j n t in
      let q = p.in_range in
      ap (λ r. tag_cmp r.0 tag) (get_back front (mid ++ rest) j (j - n) d (omega (arith, e, h)) ∙ get_front mid rest (j - n) d (omega (arith, h, lt, q))) ∙ p.before (j - n) d (omega (arith, h, lt))

gap_after : (front mid rest : List (Tag × List Cell)) (tag : Tag) (n i : ℕ) → n ≡ length front → T (below_all tag_cmp tag rest) → IsGap tag_cmp mid tag i → (j : ℕ) (d : Tag × List Cell) → n + i ≤ j → j < length (front ++ (mid ++ rest)) → tag_cmp (get_or (front ++ (mid ++ rest)) j d).0 tag ≡ Greater
gap_after front mid rest tag n i e above p j d le lt = ap (λ r. tag_cmp r.0 tag) (get_back front (mid ++ rest) j (j - n) d (omega (arith, e, le))) ∙ step (nat_lt (j - n) (length mid)) refl where
  step : (b : Bool) → nat_lt (j - n) (length mid) ≡ b → tag_cmp (get_or (mid ++ rest) (j - n) d).0 tag ≡ Greater
  step true t =
      let h = ltb-true (j - n) (length mid) t in
      ap (λ r. tag_cmp r.0 tag) (get_front mid rest (j - n) d h) ∙ p.after (j - n) d (omega (arith, le)) h
  step false t =
      let h = ltb-false (j - n) (length mid) t in
      let x = length-append front (mid ++ rest) in
      let y = length-append mid rest in
      ap (λ r. tag_cmp r.0 tag) (get_back mid rest (j - n) ((j - n) - length mid) d (omega (arith, h))) ∙ above_at rest tag ((j - n) - length mid) d above (omega (arith, x, y, e, h, lt, le))

pub gap_in_run : (blocks run : List BlockParts) (tag : Tag) (before i : ℕ) → IsRunOfTag blocks tag run before → IsGap tag_cmp (rows_of_blocks run) tag i → IsGap tag_cmp (rows_of_blocks blocks) tag (before + i)
gap_in_run blocks run tag before i h p =
    let front = rows_of_blocks h.front in
    let mid = rows_of_blocks run in
    let rest = rows_of_blocks h.rest in
    let x = length-append front (mid ++ rest) in
    let y = length-append mid rest in
    subst (λ rs. IsGap tag_cmp rs tag (before + i)) (sym (all_rows blocks run tag before h)) (record {
      in_range = omega (arith, x, y, h.rows_are, p.in_range);
      before = gap_before front mid rest tag before i h.rows_are h.below p;
      after = gap_after front mid rest tag before i h.rows_are h.above p;
    })

pub before_within : (blocks run : List BlockParts) (tag : Tag) (before : ℕ) → IsRunOfTag blocks tag run before → before + length (rows_of_blocks run) ≤ length (rows_of_blocks blocks)
before_within blocks run tag before h =
    let e = ap length (all_rows blocks run tag before h) in
    let x = length-append (rows_of_blocks h.front) (rows_of_blocks run ++ rows_of_blocks h.rest) in
    let y = length-append (rows_of_blocks run) (rows_of_blocks h.rest) in
    omega (arith, e, x, y, h.rows_are)

-- before all rows, where they have greater tags
pub gap_above : (rows : List (Tag × List Cell)) (tag : Tag) → T (below_all tag_cmp tag rows) → IsGap tag_cmp rows tag 0
gap_above rows tag h = record {
  in_range = omega arith;
  before = λ j d lt. absurd (omega (arith, lt));
  after = λ j d from lt. above_at rows tag j d h lt;
}
