-- Where a row of a list of blocks stands.
use Rattle.std.proofs.Common.{◌≡◌, ℕ, zero, suc, ◌+◌, ◌-◌, ◌<◌, ◌≤◌, true, false, List, [], ◌∷◌, ◌++◌, length, map, get_or, nat_le, refl, sym, ap, subst, ◌∙◌, arith, length-append}
use Rattle.std.specs.List.Sorted.{IsNonDecreasing, IsPartitionPoint, IsPartitionedBy}
use Rattle.std.proofs.lemmas.Bool.{leb-true, leb-false, le-leb}
use Rattle.df_value.specs.declared.cell.Cell.{Cell}
use Rattle.df_column.specs.Blocks.{BlockParts, block_rows, ends_of, rows_of_blocks}
use Rattle.df_column.specs.Columns.{column_cells}
use Rattle.df_column.specs.Pools.{start_at}
use Rattle.df_column.specs.Rows.{row_at}
use Rattle.df_column.specs.TableBlocks.{IsEndCount, IsSpot}
use Rattle.df_column.specs.declared.tag.Tag.{Tag}
use Rattle.df_column.proofs.RowLemmas.{length_rows, row_in_rows}

pub get_front : {X : Type 0} (xs ys : List X) (i : ℕ) (d : X) → i < length xs → get_or (xs ++ ys) i d ≡ get_or xs i d
get_front [] ys i d h = absurd (omega arith)
get_front (x ∷ xs) ys zero d h = refl
get_front (x ∷ xs) ys (suc i) d h = get_front xs ys i d (omega arith)

pub get_back : {X : Type 0} (xs ys : List X) (i j : ℕ) (d : X) → i ≡ length xs + j → get_or (xs ++ ys) i d ≡ get_or ys j d
get_back [] ys i j d h = let e : i ≡ j = omega arith in ap (λ k. get_or ys k d) e
get_back (x ∷ xs) ys zero j d h = absurd (omega arith)
get_back (x ∷ xs) ys (suc i) j d h = get_back xs ys i j d (omega arith)

pub length_ends : (n : ℕ) (bs : List BlockParts) → length (ends_of n bs) ≡ length bs
length_ends n [] = refl
length_ends n (b ∷ bs) = ap suc (length_ends (n + length b.tags) bs)

pub block_length : (b : BlockParts) → length (block_rows b) ≡ length b.tags
block_length b = length_rows b.tags (map column_cells b.columns)

-- a row by the count of the ends before it
record IsSpotFrom (n at k : ℕ) (bs : List BlockParts) : Type 0 where
  in_blocks : k < length bs
  start : start_at n (ends_of n bs) k ≤ at
  in_block : (b : BlockParts) → at - start_at n (ends_of n bs) k < length (get_or bs k b).tags
  along : (b : BlockParts) (d : Tag × List Cell) (i : ℕ) → (at - start_at n (ends_of n bs) k) + i < length (get_or bs k b).tags
      → get_or (rows_of_blocks bs) ((at - n) + i) d ≡ get_or (block_rows (get_or bs k b)) ((at - start_at n (ends_of n bs) k) + i) d

located : (n at k : ℕ) (bs : List BlockParts) → n ≤ at → at < n + length (rows_of_blocks bs) → IsEndCount (ends_of n bs) at k → IsSpotFrom n at k bs
located n at k [] le lt h = absurd (omega arith)
located n at zero (b ∷ bs) le lt h =
    let end : at < n + length b.tags = h.after 0 0 (omega arith) (omega arith) in
    let l = block_length b in
    record {
      in_blocks = omega arith;
      start = le;
      in_block = λ c. omega (arith, end, le);
      along = λ c d i lt. get_front (block_rows b) (rows_of_blocks bs) ((at - n) + i) d (omega (arith, lt, l));
    }
located n at (suc k) (b ∷ bs) le lt h =
    let m = n + length b.tags in
    let l = block_length b in
    let a = length-append (block_rows b) (rows_of_blocks bs) in
    let end : m ≤ at = h.before 0 0 (omega arith) in
    let count : IsEndCount (ends_of m bs) at k = record {
      in_range = omega (arith, h.in_range);
      before = λ j d lt. h.before (suc j) d (omega arith);
      after = λ j d le lt. h.after (suc j) d (omega arith) (omega arith);
    } in
    let rest = located m at k bs end (omega (arith, l, a, lt)) count in
    record {
      in_blocks = omega (arith, rest.in_blocks);
      start = rest.start;
      in_block = rest.in_block;
      along = λ c d i lt. get_back (block_rows b) (rows_of_blocks bs) ((at - n) + i) ((at - m) + i) d (omega (arith, l, end)) ∙ rest.along c d i lt;
    }

pub spot_from_ends : (bs : List BlockParts) (ends : List ℕ) (at k : ℕ) → ends ≡ ends_of 0 bs → at < length (rows_of_blocks bs) → IsEndCount ends at k
    → record { start : start_at 0 ends k ≤ at; inside : k ≤ length ends; spot : IsSpot bs at k (at - start_at 0 ends k) }
spot_from_ends bs ends at k e lt h =
    let found = located 0 at k bs (omega arith) (omega (arith, lt)) (subst (λ es. IsEndCount es at k) e h) in
    let s : start_at 0 ends k ≡ start_at 0 (ends_of 0 bs) k = ap (λ es. start_at 0 es k) e in
    record {
      start = subst (λ n. n ≤ at) (sym s) found.start;
      inside = h.in_range;
      spot = subst (λ n. IsSpot bs at k (at - n)) (sym s) (record {
        in_blocks = found.in_blocks;
        in_block = found.in_block;
        here = λ b d.
            let off : at ≡ (at - 0) + 0 = omega arith in
            let row : (at - start_at 0 (ends_of 0 bs) k) + 0 ≡ at - start_at 0 (ends_of 0 bs) k = omega arith in
            let inside = found.in_block b in
            ap (λ i. get_or (rows_of_blocks bs) i d) off ∙ found.along b d 0 (omega (arith, inside)) ∙ ap (λ i. get_or (block_rows (get_or bs k b)) i d) row;
        along = λ b d i lt. let off : at + i ≡ (at - 0) + i = omega arith in ap (λ j. get_or (rows_of_blocks bs) j d) off ∙ found.along b d i lt;
      });
    }

-- the number of all rows
pub last_end : (n : ℕ) (bs : List BlockParts) (d : ℕ) → 0 < length bs → get_or (ends_of n bs) (length (ends_of n bs) - 1) d ≡ n + length (rows_of_blocks bs)
last_end n [] d h = absurd (omega arith)
last_end n (b ∷ []) d h =
    let l = block_length b in
    let a = length-append (block_rows b) [] in
    omega (arith, l, a)
last_end n (b ∷ (c ∷ bs)) d h =
    let m = n + length b.tags in
    let rest = last_end m (c ∷ bs) d (omega arith) in
    let l = block_length b in
    let a = length-append (block_rows b) (rows_of_blocks (c ∷ bs)) in
    let e : suc (suc (length (ends_of (m + length c.tags) bs))) - 1 ≡ suc (suc (length (ends_of (m + length c.tags) bs)) - 1) = omega arith in
    ap (λ i. get_or (ends_of n (b ∷ (c ∷ bs))) i d) e ∙ rest ∙ omega (arith, l, a)

pub starts_low : (n : ℕ) (bs : List BlockParts) (j d : ℕ) → j < length bs → n ≤ get_or (ends_of n bs) j d
starts_low n [] j d h = absurd (omega arith)
starts_low n (b ∷ bs) zero d h = omega arith
starts_low n (b ∷ bs) (suc j) d h = let r = starts_low (n + length b.tags) bs j d (omega arith) in omega (arith, r)

ends_from_rise : (n : ℕ) (bs : List BlockParts) → IsNonDecreasing (ends_of n bs)
ends_from_rise n [] i j d le lt = absurd (omega arith)
ends_from_rise n (b ∷ bs) zero zero d le lt = omega arith
ends_from_rise n (b ∷ bs) zero (suc j) d le lt = let l = length_ends (n + length b.tags) bs in starts_low (n + length b.tags) bs j d (omega (arith, l, lt))
ends_from_rise n (b ∷ bs) (suc i) zero d le lt = absurd (omega arith)
ends_from_rise n (b ∷ bs) (suc i) (suc j) d le lt = ends_from_rise (n + length b.tags) bs i j d (omega arith) (omega arith)

pub ends_rise : (bs : List BlockParts) (ends : List ℕ) → ends ≡ ends_of 0 bs → IsNonDecreasing ends
ends_rise bs ends e = subst IsNonDecreasing (sym e) (ends_from_rise 0 bs)

-- the tag and the row at a spot
pub at_spot : (bs : List BlockParts) (at block row : ℕ) (b : BlockParts) (t : Tag) → IsSpot bs at block row → b ≡ get_or bs block b
    → (d : Tag × List Cell) → get_or (rows_of_blocks bs) at d ≡ (get_or b.tags row t, row_at (map column_cells b.columns) row)
at_spot bs at block row b t h e = λ d.
    h.here b d ∙ ap (λ c. get_or (block_rows c) row d) (sym e)
    ∙ row_in_rows b.tags (map column_cells b.columns) row d t (subst (λ (c : BlockParts). row < length c.tags) (sym e) (h.in_block b))

-- how many ends a partition finds
pub end_count : (ends : List ℕ) (at k : ℕ) → k ≤ length ends → IsPartitionPoint (λ y. nat_le y at ≡ true) (λ y. nat_le y at ≡ false) ends k → IsEndCount ends at k
end_count ends at k h parts = record {
  in_range = h;
  before = λ j d lt. leb-true _ _ (parts.0 j d (omega arith) lt);
  after = λ j d le lt. leb-false _ _ (parts.1 j d le lt);
}

pub ends_parted : (ends : List ℕ) (at : ℕ) → IsNonDecreasing ends → IsPartitionedBy (λ y. nat_le y at) ends
ends_parted ends at rise i j d le lt h = le-leb _ _ (let a = rise i j d le lt in let b = leb-true _ _ h in omega (arith, a, b))
