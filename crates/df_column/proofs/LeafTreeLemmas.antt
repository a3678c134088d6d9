-- Leaves of a tree: their blocks, what is counted in them, and where one of them stands.
use Rattle.std.proofs.Common.{◌≡◌, ℕ, zero, suc, ◌+◌, ◌<◌, ◌≤◌, ◌^◌, Bool, true, false, List, [], ◌∷◌, ◌++◌, length, take, drop, get_or, nat_lt, refl, sym, ap, ◌∙◌, arith, length-append}
use Rattle.std.specs.Prelude.{Option, Some, slice_get}
use Rattle.df_tree.specs.Leaves.{items_in}
use Rattle.std.proofs.Math.Seq.{take-append-add, take-nil, take-suc}
use Rattle.std.proofs.lemmas.Bool.{ltb-false, ltb-true}
use Rattle.std.proofs.lemmas.List.{take-append-drop}
use Rattle.std.proofs.lemmas.Option.{get_or_from_slice_get}
use Rattle.df_column.specs.BlockLists.{HaveRows, IsRunAt, blocks_of_leaves, rows_in}
use Rattle.df_column.specs.Blocks.{BlockParts}
use Rattle.df_tree.specs.Finds.{IsFirstWithSum}
use Rattle.df_tree.specs.Laws.{total}
use Rattle.df_column.specs.LeafTotals.{IsRunOfRow, both_totals, capped, no_totals, totals_of}
use Rattle.df_column.specs.LeafTrees.{AreFull, IsBefore, leaves_in}
use Rattle.df_column.specs.declared.leaf_totals.Totals.{Totals}
use Rattle.df_column.proofs.BlockListLemmas.{few_blocks, leaf_behind, leaves_append, rows_both, some_append}
use Rattle.df_column.proofs.LeafTotalFacts.{totals_together}
use Rattle.df_column.proofs.ListParts.{all_taken, drop_front}

-- leaves that have blocks with rows
pub full_rows : (ls : List (List BlockParts)) → AreFull ls → HaveRows (blocks_of_leaves ls)
full_rows [] h = tt
full_rows (l ∷ ls) h = some_append l (blocks_of_leaves ls) h.0.1 (full_rows ls h.1)

pub full_append : (ls ms : List (List BlockParts)) → AreFull ls → AreFull ms → AreFull (ls ++ ms)
full_append [] ms p q = q
full_append (l ∷ ls) ms p q = (p.0, full_append ls ms p.1 q)

pub full_take : (n : ℕ) (ls : List (List BlockParts)) → AreFull ls → AreFull (take n ls)
full_take zero ls h = tt
full_take (suc n) [] h = tt
full_take (suc n) (l ∷ ls) h = (h.0, full_take n ls h.1)

pub full_drop : (n : ℕ) (ls : List (List BlockParts)) → AreFull ls → AreFull (drop n ls)
full_drop zero ls h = h
full_drop (suc n) [] h = tt
full_drop (suc n) (l ∷ ls) h = full_drop n ls h.1

pub count_leaves : (ls : List (List BlockParts)) → AreFull ls → length ls ≤ length (blocks_of_leaves ls)
count_leaves [] h = omega arith
count_leaves (l ∷ ls) h = let n = length-append l (blocks_of_leaves ls) in let m = count_leaves ls h.1 in omega (arith, n, m, h.0.0)

-- few rows are counted exactly
pub record IsExact (bs : List BlockParts) (t : Totals) : Type 0 where
  pub blocks : t.blocks ≡ length bs
  pub rows : t.rows ≡ rows_in bs
  pub few : length bs ≤ 2 ^ 60

pub exact : (bs : List BlockParts) (t : Totals) → t ≡ totals_of bs → HaveRows bs → rows_in bs ≤ 2 ^ 60 → IsExact bs t
exact bs t is some few =
    let n = few_blocks bs some in
    let b : t.blocks ≡ capped (length bs) = ap (λ t. t.blocks) is in
    let r : t.rows ≡ capped (rows_in bs) = ap (λ t. t.rows) is in
    record { blocks = omega (arith, n, b, few); rows = omega (arith, r, few); few = omega (arith, n, few) }

-- the parts of blocks
length_parted : (a b d : List BlockParts) → length (a ++ (b ++ d)) ≡ length a + (length b + length d)
length_parted a b d = let x = length-append a (b ++ d) in let y = length-append b d in omega (arith, x, y)

rows_parted : (a b d : List BlockParts) → rows_in (a ++ (b ++ d)) ≡ rows_in a + (rows_in b + rows_in d)
rows_parted a b d = let x = rows_both a (b ++ d) in let y = rows_both b d in omega (arith, x, y)

-- the blocks of the first leaves, and of those behind them
pub taken_leaves : (n : ℕ) (ls : List (List BlockParts)) → blocks_of_leaves ls ≡ blocks_of_leaves (take n ls) ++ blocks_of_leaves (drop n ls)
taken_leaves n ls = ap blocks_of_leaves (sym (take-append-drop n ls)) ∙ leaves_append (take n ls) (drop n ls)

pub first_blocks : (n : ℕ) (ls : List (List BlockParts)) (m : ℕ) → m ≡ length (blocks_of_leaves (take n ls)) → blocks_of_leaves (take n ls) ≡ take m (blocks_of_leaves ls)
first_blocks n ls m is =
    let front = blocks_of_leaves (take n ls) in
    let back = blocks_of_leaves (drop n ls) in
    let e : m ≡ length front + 0 = omega (arith, is) in
    sym (ap (take m) (taken_leaves n ls) ∙ ap (λ k. take k (front ++ back)) e ∙ take-append-add front back 0 ∙ append-nil front)
  where
    append-nil : (xs : List BlockParts) → xs ++ [] ≡ xs
    append-nil [] = refl
    append-nil (x ∷ xs) = ap (λ ys. x ∷ ys) (append-nil xs)

pub last_blocks : (n : ℕ) (ls : List (List BlockParts)) (m : ℕ) → m ≡ length (blocks_of_leaves (take n ls)) → blocks_of_leaves (drop n ls) ≡ drop m (blocks_of_leaves ls)
last_blocks n ls m is =
    let front = blocks_of_leaves (take n ls) in
    let back = blocks_of_leaves (drop n ls) in
    sym (ap (drop m) (taken_leaves n ls) ∙ drop_front front back m 0 (omega (arith, is)))

-- a leaf at an index, with the blocks before it and those behind it
pub record IsLeafOf (ls : List (List BlockParts)) (at : ℕ) (leaf : List BlockParts) : Type 0 where
  pub cut : blocks_of_leaves ls ≡ blocks_of_leaves (take at ls) ++ (leaf ++ blocks_of_leaves (drop (at + 1) ls))
  pub next : blocks_of_leaves (take (at + 1) ls) ≡ blocks_of_leaves (take at ls) ++ leaf
  pub rest : drop at ls ≡ leaf ∷ drop (at + 1) ls
  pub blocks : length (blocks_of_leaves ls) ≡ length (blocks_of_leaves (take at ls)) + (length leaf + length (blocks_of_leaves (drop (at + 1) ls)))
  pub rows : rows_in (blocks_of_leaves ls) ≡ rows_in (blocks_of_leaves (take at ls)) + (rows_in leaf + rows_in (blocks_of_leaves (drop (at + 1) ls)))

dropped_at : (ls : List (List BlockParts)) (at : ℕ) (leaf : List BlockParts) → at < length ls → get_or ls at leaf ≡ leaf → drop at ls ≡ leaf ∷ drop (suc at) ls
dropped_at [] at leaf h is = absurd (omega (arith, h))
dropped_at (l ∷ ls) zero leaf h is = ap (λ k. k ∷ ls) is
dropped_at (l ∷ ls) (suc at) leaf h is = dropped_at ls at leaf (omega (arith, h)) is

pub leaf_at : (ls : List (List BlockParts)) (at : ℕ) (leaf : List BlockParts) → at < length ls → slice_get ls at ≡ Some leaf → IsLeafOf ls at leaf
leaf_at ls at leaf h found =
    let here : get_or ls at leaf ≡ leaf = get_or_from_slice_get ls at leaf leaf found in
    let a : suc at ≡ at + 1 = omega arith in
    let rest : drop at ls ≡ leaf ∷ drop (at + 1) ls = dropped_at ls at leaf h here ∙ ap (λ n. leaf ∷ drop n ls) a in
    let taken : take (at + 1) ls ≡ take at ls ++ leaf ∷ [] = ap (λ n. take n ls) (sym a) ∙ take-suc ls at leaf h ∙ ap (λ l. take at ls ++ l ∷ []) here in
    let cut = taken_leaves at ls ∙ ap (λ ms. blocks_of_leaves (take at ls) ++ blocks_of_leaves ms) rest in
    record {
      cut = cut;
      next = ap blocks_of_leaves taken ∙ leaf_behind (take at ls) leaf;
      rest = rest;
      blocks = ap length cut ∙ length_parted (blocks_of_leaves (take at ls)) leaf (blocks_of_leaves (drop (at + 1) ls));
      rows = ap rows_in cut ∙ rows_parted (blocks_of_leaves (take at ls)) leaf (blocks_of_leaves (drop (at + 1) ls));
    }

-- a part of few rows has few rows
pub record AreFew (bs : List BlockParts) (n : ℕ) : Type 0 where
  pub front : rows_in (take n bs) ≤ rows_in bs
  pub back : rows_in (drop n bs) ≤ rows_in bs

pub cut_rows : (bs : List BlockParts) (n : ℕ) → AreFew bs n
cut_rows bs n =
    let e = ap rows_in (sym (take-append-drop n bs)) ∙ rows_both (take n bs) (drop n bs) in
    record { front = omega (arith, e); back = omega (arith, e) }

pub taken_behind : (bs : List BlockParts) (n m : ℕ) → take m (drop n bs) ≡ drop n (take (n + m) bs)
taken_behind bs zero m = let e : m ≡ 0 + m = omega arith in ap (λ k. take k bs) e
taken_behind [] (suc n) m = take-nil m ∙ sym (ap (drop (suc n)) (take-nil (suc n + m)))
taken_behind (b ∷ bs) (suc n) m = let e : suc (n + m) ≡ suc n + m = omega arith in taken_behind bs n m ∙ ap (λ k. drop (suc n) (take k (b ∷ bs))) e

-- the leaves before the one in which a block stands
pub front_rows : (n : ℕ) (ls : List (List BlockParts)) → rows_in (blocks_of_leaves (take n ls)) ≤ rows_in (blocks_of_leaves ls)
front_rows n ls = let e = ap rows_in (taken_leaves n ls) ∙ rows_both (blocks_of_leaves (take n ls)) (blocks_of_leaves (drop n ls)) in omega (arith, e)

pub front_blocks : (n : ℕ) (ls : List (List BlockParts)) → length (blocks_of_leaves (take n ls)) ≤ length (blocks_of_leaves ls)
front_blocks n ls = let e = ap length (taken_leaves n ls) ∙ length-append (blocks_of_leaves (take n ls)) (blocks_of_leaves (drop n ls)) in omega (arith, e)

-- what stands before is counted exactly, where there are few rows
pub exact_before : (ls : List (List BlockParts)) (n : ℕ) (t : Totals) → AreFull ls → rows_in (blocks_of_leaves ls) ≤ 2 ^ 60 → t ≡ totals_of (blocks_of_leaves (take n ls)) → IsExact (blocks_of_leaves (take n ls)) t
exact_before ls n t full few is = let m = front_rows n ls in exact (blocks_of_leaves (take n ls)) t is (full_rows (take n ls) (full_take n ls full)) (omega (arith, m, few))

-- what a test of the number of blocks, or of rows, finds
pub record HasPassed (ls : List (List BlockParts)) (at most : ℕ) (f : List BlockParts → ℕ) : Type 0 where
  pub not_yet : f (blocks_of_leaves (take at ls)) ≤ most
  pub now : at < length ls → most < f (blocks_of_leaves (take (at + 1) ls))
  pub reached : most < f (blocks_of_leaves ls) → at < length ls

within_all : (ls : List (List BlockParts)) (at most : ℕ) (f : List BlockParts → ℕ) → f (blocks_of_leaves (take at ls)) ≤ most → most < f (blocks_of_leaves ls) → at < length ls
within_all ls at most f not_yet more = by_case (nat_lt at (length ls)) refl where
  by_case : (b : Bool) → nat_lt at (length ls) ≡ b → at < length ls
  by_case true e = ltb-true at (length ls) e
  by_case false e = let n = ap (λ ms. f (blocks_of_leaves ms)) (all_taken ls at (ltb-false at (length ls) e)) in absurd (omega (arith, n, not_yet, more))

pub few_leaves : (ls : List (List BlockParts)) → AreFull ls → rows_in (blocks_of_leaves ls) ≤ 2 ^ 60 → length ls ≤ 2 ^ 60
few_leaves ls full few =
    let n = count_leaves ls full in
    let m = few_blocks (blocks_of_leaves ls) (full_rows ls full) in
    omega (arith, n, m, few)

pub few_length : (ls : List (List BlockParts)) (n : ℕ) → AreFull ls → rows_in (blocks_of_leaves ls) ≤ 2 ^ 60 → length (blocks_of_leaves (take n ls)) ≤ 2 ^ 60
few_length ls n full few =
    let m = front_rows n ls in
    let b = few_blocks (blocks_of_leaves (take n ls)) (full_rows (take n ls) (full_take n ls full)) in
    omega (arith, m, b, few)

pub more_blocks : (ls : List (List BlockParts)) (at most : ℕ) (before : Totals) → AreFull ls → rows_in (blocks_of_leaves ls) ≤ 2 ^ 60 → IsBefore (λ sum. nat_lt most (capped sum.blocks)) ls at before → HasPassed ls at most length
more_blocks ls at most before full few h =
    let x = exact_before ls at before full few h.before_is in
    let m = few_length ls (at + 1) full few in
    let now : at < length ls → most < length (blocks_of_leaves (take (at + 1) ls)) = λ lt. let p = ltb-true _ _ (h.now lt) in omega (arith, p, m) in
    let not_yet : length (blocks_of_leaves (take at ls)) ≤ most = let p = ltb-false _ _ h.not_yet in omega (arith, p, x.blocks, x.few) in
    record { not_yet = not_yet; now = now; reached = within_all ls at most length not_yet }

pub more_rows : (ls : List (List BlockParts)) (at most : ℕ) (before : Totals) → AreFull ls → rows_in (blocks_of_leaves ls) ≤ 2 ^ 60 → IsBefore (λ sum. nat_lt most (capped sum.rows)) ls at before → HasPassed ls at most rows_in
more_rows ls at most before full few h =
    let x = exact_before ls at before full few h.before_is in
    let m = front_rows (at + 1) ls in
    let k = front_rows at ls in
    let now : at < length ls → most < rows_in (blocks_of_leaves (take (at + 1) ls)) = λ lt. let p = ltb-true _ _ (h.now lt) in omega (arith, p, m, few) in
    let not_yet : rows_in (blocks_of_leaves (take at ls)) ≤ most = let p = ltb-false _ _ h.not_yet in omega (arith, p, x.rows, k, few) in
    record { not_yet = not_yet; now = now; reached = within_all ls at most rows_in not_yet }

-- the run of a leaf that a block stands in
pub run_in_leaf : (ls : List (List BlockParts)) (at n place : ℕ) (leaf : List BlockParts) → IsLeafOf ls at leaf → n ≡ length (blocks_of_leaves (take at ls)) + place → place < length leaf → IsRunAt (blocks_of_leaves ls) n leaf place
run_in_leaf ls at n place leaf h is lt = record { front = blocks_of_leaves (take at ls); rest = blocks_of_leaves (drop (at + 1) ls); cut = h.cut; at_is = is; inside = lt }

-- and that a row stands in
pub row_in_leaf : (ls : List (List BlockParts)) (at row : ℕ) (leaf : List BlockParts) (before : Totals) → IsLeafOf ls at leaf → IsExact (blocks_of_leaves (take at ls)) before → rows_in (blocks_of_leaves (take at ls)) ≤ row → row < rows_in (blocks_of_leaves (take at ls)) + rows_in leaf → IsRunOfRow (blocks_of_leaves ls) row leaf before
row_in_leaf ls at row leaf before h x low high = record { front = blocks_of_leaves (take at ls); rest = blocks_of_leaves (drop (at + 1) ls); cut = h.cut; blocks_are = x.blocks; rows_are = x.rows; begins = low; ends = high }

-- what a search finds
pub found_first : (passes : Totals → Bool) (ls : List (List BlockParts)) (at : ℕ) (before : Totals) → IsFirstWithSum no_totals both_totals totals_of passes ls at before → IsBefore passes ls at before
found_first passes ls at before h = record {
  within = omega (arith, h.first.within);
  before_is = h.sum_is ∙ totals_together (take at ls);
  not_yet = ap passes h.sum_is ∙ h.first.before at (omega arith);
  now = λ lt. ap passes (sym (totals_together (take (at + 1) ls))) ∙ h.first.now;
}

pub found_none : (passes : Totals → Bool) (ls : List (List BlockParts)) (at : ℕ) (all : Totals) → at ≡ length ls → all ≡ total no_totals both_totals totals_of ls → passes (total no_totals both_totals totals_of ls) ≡ false → IsBefore passes ls at all
found_none passes ls at all is sum h = record {
  within = omega (arith, is);
  before_is = sum ∙ totals_together ls ∙ ap (λ ms. totals_of (blocks_of_leaves ms)) (sym (all_taken ls at (omega (arith, is))));
  not_yet = ap passes sum ∙ h;
  now = λ lt. absurd (omega (arith, lt, is));
}

-- the leaves of a sequence that is there
pub some_leaves : (o : Option (List (List (List BlockParts) × ℕ) × ℕ)) (s : List (List (List BlockParts) × ℕ) × ℕ) (ls : List (List BlockParts)) → o ≡ Some s → leaves_in o ≡ ls → items_in {I = List BlockParts} s ≡ ls
some_leaves o s ls is view = sym (ap leaves_in is) ∙ view

pub only_one : (ls : List (List BlockParts)) (leaf : List BlockParts) → length ls ≡ 1 → slice_get ls 0 ≡ Some leaf → ls ≡ leaf ∷ []
only_one [] leaf n found = absurd (omega (arith, n))
only_one (l ∷ []) leaf n found = ap (λ k. k ∷ []) (get_or_from_slice_get (l ∷ []) 0 leaf leaf found)
only_one (l ∷ m ∷ ls) leaf n found = absurd (omega (arith, n))
