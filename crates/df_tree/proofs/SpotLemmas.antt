-- Items where they stand in parts.
use Rattle.std.proofs.Common.{◌≡◌, ◌≤◌, ◌<◌, ◌+◌, ◌-◌, ℕ, zero, suc, List, [], ◌∷◌, ◌++◌, Some, length, sym, ap, ◌∙◌, arith, length-append, subst}
use Rattle.std.specs.Prelude.{slice_get, slice_set, take, drop, get_or}
use Rattle.std.specs.List.{remove}
use Rattle.std.proofs.lemmas.List.{length-take-le}
use Rattle.std.proofs.Math.Seq.{split_at, get_or-append_seam, set-append_seam}
use denote.Param.Weighed.{most, at_most}
use Rattle.df_tree.specs.Leaves.{items, room_at, rooms, leaves_of_parts, Edited, Kept, Reserved, Taken}
use Rattle.df_tree.specs.Spots.{IsSpot}
use Rattle.df_tree.proofs.LeafLemmas.{get-past, get-within, get_or-past, get_or-within, items-append, items-three, length-rooms, rooms-append, leaves-append}
use Rattle.df_tree.proofs.PlanLemmas.{kept_trans, kept_within, reserved_within}
use Rattle.df_tree.proofs.EditLemmas.{edited_within}

module _ {I : Type 0} (ks : List (List (List I × ℕ) × ℕ)) (index at rest : ℕ) (s : IsSpot {I = I} ks index at rest) where
  pub here : (k : List (List I × ℕ) × ℕ) → k ≡ get_or ks at k → k ≡ s.part
  here k e = e ∙ ap (λ l. get_or l at k) s.cut ∙ ap (λ n. get_or (s.front ++ s.part ∷ s.back) n k) s.at_is ∙ get_or-append_seam s.front s.part s.back k

  pub whole : leaves_of_parts {I = I} ks ≡ leaves_of_parts {I = I} s.front ++ (s.part.0 ++ leaves_of_parts {I = I} s.back)
  whole = ap (λ l. leaves_of_parts l) s.cut ∙ leaves-append s.front (s.part ∷ s.back)

  pub within : (k : List (List I × ℕ) × ℕ) → k ≡ get_or ks at k → rest < length (items {I = I} k.0)
  within k e = rw (here k e) s.within

  pub at_in : at < length ks
  at_in = let n = length-append s.front (s.part ∷ s.back) in let m = ap length s.cut in omega (arith, n, m, s.at_is)

  -- its rank is below that of all
  pub lower : (k : List (List I × ℕ) × ℕ) → k ≡ get_or ks at k → k.1 < most (λ k. k.1 + 1) ks
  lower k e = let m = at_most (λ k. k.1 + 1) ks at k at_in in let n : k.1 + 1 ≡ (get_or ks at k).1 + 1 = ap (λ k. k.1 + 1) e in omega (arith, m, n)

  parts : items {I = I} (leaves_of_parts {I = I} ks) ≡ items {I = I} (leaves_of_parts {I = I} s.front) ++ (items {I = I} s.part.0 ++ items {I = I} (leaves_of_parts {I = I} s.back))
  parts = ap (λ l. items {I = I} l) whole ∙ items-three {I = I} (leaves_of_parts {I = I} s.front) s.part.0 (leaves_of_parts {I = I} s.back)

  -- it has at most as many items as all
  pub fewer : (k : List (List I × ℕ) × ℕ) → k ≡ get_or ks at k → length (items {I = I} k.0) ≤ length (items {I = I} (leaves_of_parts {I = I} ks))
  fewer k e =
      let all = ap length parts in
      let n = length-append (items {I = I} (leaves_of_parts {I = I} s.front)) (items {I = I} s.part.0 ++ items {I = I} (leaves_of_parts {I = I} s.back)) in
      let m = length-append (items {I = I} s.part.0) (items {I = I} (leaves_of_parts {I = I} s.back)) in
      let same = ap (λ k. length (items {I = I} k.0)) (here k e) in
      omega (arith, all, n, m, same)

  -- the item there
  pub got : (k : List (List I × ℕ) × ℕ) (x : I) → k ≡ get_or ks at k → slice_get (items {I = I} k.0) rest ≡ Some x → slice_get (items {I = I} (leaves_of_parts {I = I} ks)) index ≡ Some x
  got k x e h =
      let front : List I = items {I = I} (leaves_of_parts {I = I} s.front) in
      let mine : List I = items {I = I} s.part.0 in
      let back : List I = items {I = I} (leaves_of_parts {I = I} s.back) in
      ap (λ l. slice_get l index) parts
      ∙ ap (λ n. slice_get (front ++ (mine ++ back)) n) s.index_is
      ∙ get-past front (mine ++ back) rest
      ∙ get-within mine back rest s.within
      ∙ ap (λ k. slice_get (items {I = I} k.0) rest) (sym (here k e))
      ∙ h

  -- the room there
  pub room : (k : List (List I × ℕ) × ℕ) → k ≡ get_or ks at k → room_at {I = I} (leaves_of_parts {I = I} ks) index ≡ room_at {I = I} k.0 rest
  room k e =
      let front : List ℕ = rooms {I = I} (leaves_of_parts {I = I} s.front) in
      let mine : List ℕ = rooms {I = I} s.part.0 in
      let back : List ℕ = rooms {I = I} (leaves_of_parts {I = I} s.back) in
      let all : rooms {I = I} (leaves_of_parts {I = I} ks) ≡ front ++ (mine ++ back)
      = ap (λ l. rooms {I = I} l) whole ∙ rooms-append {I = I} (leaves_of_parts {I = I} s.front) (s.part.0 ++ leaves_of_parts {I = I} s.back) ∙ ap (λ l. front ++ l) (rooms-append {I = I} s.part.0 (leaves_of_parts {I = I} s.back)) in
      let far : index ≡ length front + rest = s.index_is ∙ ap (λ n. n + rest) (sym (length-rooms {I = I} (leaves_of_parts {I = I} s.front))) in
      let n = length-rooms {I = I} s.part.0 in
      let near : rest < length mine = omega (arith, n, s.within) in
      ap (λ l. get_or l index 0) all
      ∙ ap (λ n. get_or (front ++ (mine ++ back)) n 0) far
      ∙ get_or-past front (mine ++ back) rest 0
      ∙ get_or-within mine back rest 0 near
      ∙ ap (λ k. room_at {I = I} k.0 rest) (sym (here k e))

  -- another part in that place
  pub changed : (k : List (List I × ℕ) × ℕ) → leaves_of_parts {I = I} (slice_set ks at k) ≡ leaves_of_parts {I = I} s.front ++ (k.0 ++ leaves_of_parts {I = I} s.back)
  changed k =
      ap (λ l. leaves_of_parts {I = I} (slice_set l at k)) s.cut
      ∙ ap (λ n. leaves_of_parts {I = I} (slice_set (s.front ++ s.part ∷ s.back) n k)) s.at_is
      ∙ ap (λ l. leaves_of_parts {I = I} l) (set-append_seam s.front s.part s.back k)
      ∙ leaves-append s.front (k ∷ s.back)

  module _ (k l : List (List I × ℕ) × ℕ) (e : k ≡ get_or ks at k) where
    -- with the same items, and each plan as ready
    pub kept : Kept {I = I} k.0 l.0 → Kept {I = I} (leaves_of_parts {I = I} ks) (leaves_of_parts {I = I} (slice_set ks at l))
    kept p =
        let q : Kept {I = I} s.part.0 l.0 = subst (λ k. Kept {I = I} k.0 l.0) (here k e) p in
        subst (λ rs. Kept {I = I} rs (leaves_of_parts {I = I} (slice_set ks at l))) (sym whole)
        (subst (λ rs. Kept {I = I} (leaves_of_parts {I = I} s.front ++ (s.part.0 ++ leaves_of_parts {I = I} s.back)) rs) (sym (changed l))
        (kept_within {I = I} (leaves_of_parts {I = I} s.front) s.part.0 l.0 (leaves_of_parts {I = I} s.back) q))

    -- with one more reserved
    pub reserved : items {I = I} l.0 ≡ items {I = I} k.0 → Reserved {I = I} k.0 l.0 rest → Reserved {I = I} (leaves_of_parts {I = I} ks) (leaves_of_parts {I = I} (slice_set ks at l)) index
    reserved i p =
        let q : Reserved {I = I} s.part.0 l.0 rest = subst (λ k. Reserved {I = I} k.0 l.0 rest) (here k e) p in
        let j : items {I = I} l.0 ≡ items {I = I} s.part.0 = i ∙ ap (λ k. items {I = I} k.0) (here k e) in
        subst (λ rs. Reserved {I = I} rs (leaves_of_parts {I = I} (slice_set ks at l)) index) (sym whole)
        (subst (λ rs. Reserved {I = I} (leaves_of_parts {I = I} s.front ++ (s.part.0 ++ leaves_of_parts {I = I} s.back)) rs index) (sym (changed l))
        (reserved_within {I = I} (leaves_of_parts {I = I} s.front) s.part.0 l.0 (leaves_of_parts {I = I} s.back) index rest s.index_is s.within j q))

    -- with one leaf changed
    pub edited : (edit : List I → ℕ → List I) (cost : ℕ) → Edited {I = I} k.0 l.0 rest edit cost → Edited {I = I} (leaves_of_parts {I = I} ks) (leaves_of_parts {I = I} (slice_set ks at l)) index edit cost
    edited edit cost p =
        let q : Edited {I = I} s.part.0 l.0 rest edit cost = subst (λ k. Edited {I = I} k.0 l.0 rest edit cost) (here k e) p in
        subst (λ rs. Edited {I = I} rs (leaves_of_parts {I = I} (slice_set ks at l)) index edit cost) (sym whole)
        (subst (λ rs. Edited {I = I} (leaves_of_parts {I = I} s.front ++ (s.part.0 ++ leaves_of_parts {I = I} s.back)) rs index edit cost) (sym (changed l))
        (edited_within {I = I} (leaves_of_parts {I = I} s.front) s.part.0 l.0 (leaves_of_parts {I = I} s.back) index rest edit cost s.index_is q))

  -- with an item less
  pub taken : (k l : List (List I × ℕ) × ℕ) → k ≡ get_or ks at k → Taken {I = I} k.0 l.0 rest → Taken {I = I} (leaves_of_parts {I = I} ks) (leaves_of_parts {I = I} (slice_set ks at l)) index
  taken k l e p = record {
    mid = leaves_of_parts {I = I} (slice_set ks at (p.mid, 0));
    edited = edited k (p.mid, 0) e (λ xs i. remove xs i) 1 p.edited;
    kept =
        subst (λ rs. Kept {I = I} rs (leaves_of_parts {I = I} (slice_set ks at l))) (sym (changed (p.mid, 0)))
        (subst (λ rs. Kept {I = I} (leaves_of_parts {I = I} s.front ++ (p.mid ++ leaves_of_parts {I = I} s.back)) rs) (sym (changed l))
        (kept_within {I = I} (leaves_of_parts {I = I} s.front) p.mid l.0 (leaves_of_parts {I = I} s.back) p.kept));
  }

-- what was taken stays so in what is kept
pub taken_then : {I : Type 0} (rs ss us : List (List I × ℕ)) (index : ℕ) → Taken {I = I} rs ss index → Kept {I = I} ss us → Taken {I = I} rs us index
taken_then {I = I} rs ss us index p k = record { mid = p.mid; edited = p.edited; kept = kept_trans {I = I} p.mid ss us p.kept k }

-- a spot that was found from the front on
pub found : {I : Type 0} (ks : List (List (List I × ℕ) × ℕ)) (index at rest : ℕ) (k : List (List I × ℕ) × ℕ)
    → index ≡ length (items {I = I} (leaves_of_parts {I = I} (take at ks))) + rest → at < length ks → k ≡ get_or ks at k → rest < length (items {I = I} k.0) → IsSpot {I = I} ks index at rest
found ks index at rest k e h f near =
    record { front = take at ks; part = k; back = drop (suc at) ks; cut = split_at ks at k h ∙ ap (λ l. take at ks ++ l ∷ drop (suc at) ks) (sym f); at_is = sym (length-take-le at ks (omega (arith, h))); index_is = e; within = near }

-- one part further on
longer : {I : Type 0} (ks : List (List (List I × ℕ) × ℕ)) (at : ℕ) (k : List (List I × ℕ) × ℕ) → at < length ks → k ≡ get_or ks at k
    → length (items {I = I} (leaves_of_parts {I = I} (take (suc at) ks))) ≡ length (items {I = I} (leaves_of_parts {I = I} (take at ks))) + length (items {I = I} k.0)
longer [] at k h e = absurd (omega (arith, h))
longer {I = I} (j ∷ ks) zero k h e = let l = ap length (items-append {I = I} j.0 []) in let n = length-append (items {I = I} j.0) [] in let m = ap (λ k. length (items {I = I} k.0)) e in omega (arith, l, n, m)
longer {I = I} (j ∷ ks) (suc at) k h e =
    let a = ap length (items-append {I = I} j.0 (leaves_of_parts (take (suc at) ks))) in
    let b = ap length (items-append {I = I} j.0 (leaves_of_parts (take at ks))) in
    let n = length-append (items {I = I} j.0) (items {I = I} (leaves_of_parts (take (suc at) ks))) in
    let m = length-append (items {I = I} j.0) (items {I = I} (leaves_of_parts (take at ks))) in
    let more = longer ks at k (omega (arith, h)) e in
    omega (arith, a, b, n, m, more)

pub next : {I : Type 0} (ks : List (List (List I × ℕ) × ℕ)) (index at rest count : ℕ) (k : List (List I × ℕ) × ℕ)
    → index ≡ length (items {I = I} (leaves_of_parts {I = I} (take at ks))) + rest → at < length ks → k ≡ get_or ks at k → count ≡ length (items {I = I} k.0) → count ≤ rest
    → index ≡ length (items {I = I} (leaves_of_parts {I = I} (take (at + 1) ks))) + (rest - count)
next {I = I} ks index at rest count k e h f n m =
    let more = longer ks at k h f in
    let a : at + 1 ≡ suc at = omega arith in
    rw a (omega (arith, e, more, n, m))

pub more : {I : Type 0} (ks : List (List (List I × ℕ) × ℕ)) (at count sum : ℕ) (k : List (List I × ℕ) × ℕ)
    → count ≡ length (items {I = I} (leaves_of_parts {I = I} (take at ks))) → at < length ks → k ≡ get_or ks at k → sum ≡ count + length (items {I = I} k.0)
    → sum ≡ length (items {I = I} (leaves_of_parts {I = I} (take (at + 1) ks)))
more {I = I} ks at count sum k e h f s =
    let n = longer ks at k h f in
    let a : at + 1 ≡ suc at = omega arith in
    rw a (omega (arith, e, n, s))
