-- Where blocks and leaves end, and where a row stands by these ends.
use Rattle.std.proofs.Common.{◌≡◌, ℕ, zero, suc, ◌+◌, ◌-◌, ◌<◌, ◌≤◌, Bool, true, false, nat_lt, List, [], ◌∷◌, ◌++◌, length, take, drop, get_or, refl, sym, ap, ◌∙◌, arith, length-append}
use Rattle.std.proofs.Math.Seq.{take-append-add}
use Rattle.std.proofs.lemmas.Bool.{ltb-true, ltb-false}
use Rattle.std.proofs.lemmas.List.{take-append-drop, take-append-le}
use Rattle.df_column.specs.BlockLists.{last_of, rows_in}
use Rattle.df_column.specs.Blocks.{BlockParts, block_rows, ends_of, rows_of_blocks}
use Rattle.df_column.specs.Pools.{start_at}
use Rattle.df_column.specs.TableBlocks.{IsEndCount}
use Rattle.df_column.proofs.BlockListLemmas.{rows_both}
use Rattle.df_column.proofs.BlockRowLemmas.{rows_push}
use Rattle.df_column.proofs.ListParts.{all_taken}
use Rattle.df_column.proofs.PartLemmas.{take_parts}
use Rattle.df_column.proofs.SharedLemmas.{ends_append}
use Rattle.df_column.proofs.SpotLemmas.{block_length, last_end, length_ends}

-- the ends of blocks
pub rows_end : (bs : List BlockParts) → last_of (ends_of 0 bs) ≡ length (rows_of_blocks bs)
rows_end [] = refl
rows_end (b ∷ bs) = last_end 0 (b ∷ bs) 0 (omega arith) ∙ (let z : 0 + length (rows_of_blocks (b ∷ bs)) ≡ length (rows_of_blocks (b ∷ bs)) = omega arith in z)

pub rows_there : (bs : List BlockParts) (ends : List ℕ) → ends ≡ ends_of 0 bs → last_of ends ≡ length (rows_of_blocks bs)
rows_there bs ends e = ap last_of e ∙ rows_end bs

pub ends_push : (bs : List BlockParts) (b : BlockParts) → ends_of 0 (bs ++ b ∷ []) ≡ ends_of 0 bs ++ (length (rows_of_blocks bs) + length b.tags) ∷ []
ends_push bs b =
    let z : 0 + length (rows_of_blocks bs) ≡ length (rows_of_blocks bs) = omega arith in
    ends_append 0 bs (b ∷ []) ∙ ap (λ n. ends_of 0 bs ++ (n + length b.tags) ∷ []) z

pub count_push : (bs : List BlockParts) (b : BlockParts) → length (rows_of_blocks (bs ++ b ∷ [])) ≡ length (rows_of_blocks bs) + length b.tags
count_push bs b = ap length (rows_push bs b) ∙ length-append (rows_of_blocks bs) (block_rows b) ∙ ap (λ n. length (rows_of_blocks bs) + n) (block_length b)

end_at : (n : ℕ) (bs : List BlockParts) (i d : ℕ) → i < length bs → get_or (ends_of n bs) i d ≡ n + length (rows_of_blocks (take (suc i) bs))
end_at n [] i d lt = absurd (omega arith)
end_at n (b ∷ bs) zero d lt =
    let l = block_length b in
    let a = length-append (block_rows b) [] in
    omega (arith, l, a)
end_at n (b ∷ bs) (suc i) d lt =
    let m = n + length b.tags in
    let rest = end_at m bs i d (omega arith) in
    let l = block_length b in
    let a = length-append (block_rows b) (rows_of_blocks (take (suc i) bs)) in
    omega (arith, rest, l, a)

pub start_there : (n : ℕ) (bs : List BlockParts) (k : ℕ) → k ≤ length bs → start_at n (ends_of n bs) k ≡ n + length (rows_of_blocks (take k bs))
start_there n bs zero le = omega arith
start_there n [] (suc k) le = absurd (omega arith)
start_there n (b ∷ bs) (suc k) le =
    let m = n + length b.tags in
    let rest = start_there m bs k (omega arith) in
    let l = block_length b in
    let a = length-append (block_rows b) (rows_of_blocks (take k bs)) in
    omega (arith, rest, l, a)

-- the rows of the first blocks
rows_parts : (bs : List BlockParts) (m n : ℕ) → length (rows_of_blocks (take (m + n) bs)) ≡ length (rows_of_blocks (take m bs)) + length (rows_of_blocks (take n (drop m bs)))
rows_parts bs m n = ap (λ cs. length (rows_of_blocks cs)) (take_parts m n bs) ∙ rows_both (take m bs) (take n (drop m bs))

pub rows_rise : (bs : List BlockParts) (m n : ℕ) → m ≤ n → length (rows_of_blocks (take m bs)) ≤ length (rows_of_blocks (take n bs))
rows_rise bs m n le =
    let e : m + (n - m) ≡ n = omega (arith, le) in
    let p = rows_parts bs m (n - m) in
    let q = ap (λ k. length (rows_of_blocks (take k bs))) e in
    omega (arith, p, q)

pub part_rows : (bs : List BlockParts) (low high : ℕ) → length (rows_of_blocks (drop low (take high bs))) ≤ length (rows_of_blocks bs)
part_rows bs low high =
    let p = ap (λ cs. length (rows_of_blocks cs)) (sym (take-append-drop low (take high bs))) ∙ rows_both (take low (take high bs)) (drop low (take high bs)) in
    let q = ap (λ cs. length (rows_of_blocks cs)) (sym (take-append-drop high bs)) ∙ rows_both (take high bs) (drop high bs) in
    omega (arith, p, q)

-- so many ends are at most a number, where the rows up to there are, and those up to the next end are more
count_at : (bs : List BlockParts) (at c : ℕ) → c ≤ length bs → length (rows_of_blocks (take c bs)) ≤ at → (c < length bs → at < length (rows_of_blocks (take (suc c) bs))) → IsEndCount (ends_of 0 bs) at c
count_at bs at c le low high =
    let l = length_ends 0 bs in
    record {
      in_range = omega (arith, l, le);
      before = λ k d lt. let e = end_at 0 bs k d (omega (arith, lt, le)) in let r = rows_rise bs (suc k) c (omega arith) in omega (arith, e, r, low);
      after = λ k d from lt.
          let inside : k < length bs = omega (arith, l, lt) in
          let e = end_at 0 bs k d inside in
          let r = rows_rise bs (suc c) (suc k) (omega arith) in
          let h = high (omega (arith, from, inside)) in
          omega (arith, e, r, h);
    }

count_low : (bs : List BlockParts) (at c : ℕ) → IsEndCount (ends_of 0 bs) at c → length (rows_of_blocks (take c bs)) ≤ at
count_low bs at zero h = omega arith
count_low bs at (suc c) h =
    let l = length_ends 0 bs in
    let e = end_at 0 bs c 0 (omega (arith, l, h.in_range)) in
    let b = h.before c 0 (omega arith) in
    omega (arith, e, b)

count_high : (bs : List BlockParts) (at c : ℕ) → IsEndCount (ends_of 0 bs) at c → c < length bs → at < length (rows_of_blocks (take (suc c) bs))
count_high bs at c h lt =
    let l = length_ends 0 bs in
    let e = end_at 0 bs c 0 lt in
    let a = h.after c 0 (omega arith) (omega (arith, l, lt)) in
    omega (arith, e, a)

-- a row stands in the part of the blocks where its index does, at the block that the ends of this part tell
pub record IsSpotIn (bs : List BlockParts) (at block row : ℕ) : Type 0 where
  pub count : IsEndCount (ends_of 0 bs) at block
  pub row_is : row ≡ at - start_at 0 (ends_of 0 bs) block

pub spot_between : (bs front part rest : List BlockParts) (at off j row : ℕ) → bs ≡ front ++ (part ++ rest) → rows_in front ≤ at → off ≡ at - rows_in front → (length part ≤ j → length front + j < length bs → at < rows_in front + rows_in part)
    → IsEndCount (ends_of 0 part) off j → row ≡ off - start_at 0 (ends_of 0 part) j → IsSpotIn bs at (length front + j) row
spot_between bs front part rest at off j row e begins is more count row_is =
    record { count = count_at bs at c inside low high; row_is = omega (arith, row_is, is, mine, starts, whole, begins) }
  where
    c : ℕ
    c = length front + j

    long : length bs ≡ length front + (length part + length rest)
    long = ap length e ∙ length-append front (part ++ rest) ∙ ap (λ n. length front + n) (length-append part rest)

    few : j ≤ length part
    few = let l = length_ends 0 part in omega (arith, l, count.in_range)

    inside : c ≤ length bs
    inside = omega (arith, long, few)

    -- the first of the blocks in the part
    first : (i : ℕ) → i ≤ length part → length (rows_of_blocks (take (length front + i) bs)) ≡ rows_in front + length (rows_of_blocks (take i part))
    first i le =
        ap (λ cs. length (rows_of_blocks cs)) (ap (take (length front + i)) e ∙ take-append-add front (part ++ rest) i ∙ ap (λ cs. front ++ cs) (take-append-le i part rest le))
        ∙ rows_both front (take i part)

    low : length (rows_of_blocks (take c bs)) ≤ at
    low = let f = first j few in let r = count_low part off j count in omega (arith, f, r, begins, is)

    high : c < length bs → at < length (rows_of_blocks (take (suc c) bs))
    high lt = by_case (nat_lt j (length part)) refl where
      by_case : (b : Bool) → nat_lt j (length part) ≡ b → at < length (rows_of_blocks (take (suc c) bs))
      by_case true t =
          let small = ltb-true _ _ t in
          let r = count_high part off j count small in
          let f = first (suc j) (omega (arith, small)) in
          let m : suc c ≡ length front + suc j = omega arith in
          let q = ap (λ n. length (rows_of_blocks (take n bs))) m in
          omega (arith, f, r, q, is)
      by_case false t =
          let large = ltb-false _ _ t in
          let above = more (omega (arith, large)) lt in
          let f = first j few in
          let all = ap (λ cs. length (rows_of_blocks cs)) (all_taken part j (omega (arith, large))) in
          absurd (omega (arith, above, f, all, low))

    starts : start_at 0 (ends_of 0 bs) c ≡ length (rows_of_blocks (take c bs))
    starts = let s = start_there 0 bs c inside in omega (arith, s)

    mine : start_at 0 (ends_of 0 part) j ≡ length (rows_of_blocks (take j part))
    mine = let s = start_there 0 part j few in omega (arith, s)

    whole : length (rows_of_blocks (take c bs)) ≡ rows_in front + length (rows_of_blocks (take j part))
    whole = first j few
