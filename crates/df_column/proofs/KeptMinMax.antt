-- The least and the greatest cell of blocks of which others replace some.
use Rattle.std.proofs.Common.{◌≡◌, ℕ, zero, suc, ◌+◌, ◌-◌, ◌<◌, ◌≤◌, Bool, true, false, cond, List, [], ◌∷◌, ◌++◌, length, map, take, drop, get_or, refl, sym, ap, subst, ◌∙◌, arith, append-nil, append_assoc, length-append, length-take, length-drop}
use Rattle.std.specs.Prelude.{Option, Some, None, ◌&&◌}
use Rattle.std.specs.Option.{IfNone, IfSome}
use Rattle.std.proofs.Math.Seq.{take-append-add}
use Rattle.std.proofs.lemmas.Bool.{false≢true}
use Rattle.std.proofs.lemmas.List.{take-append-drop}
use Rattle.df_value.specs.declared.cell.Cell.{Cell}
use Rattle.df_column.specs.BlockLists.{HaveRows, IsSpliceOf, min_or_max_cell}
use Rattle.df_column.specs.Blocks.{BlockParts, block_rows, rows_of_blocks}
use Rattle.df_column.specs.Changes.{IsHead}
use Rattle.df_column.specs.MinMaxCells.{cells_at, min_or_max_of, min_or_max_with, is_beyond, is_beyond_best}
use Rattle.df_column.specs.declared.min_max.MinMax.{MinMax}
use Rattle.df_column.specs.declared.tag.Tag.{Tag}
use Rattle.df_column.proofs.BlocksMinMax.{IsStrict, min_or_max_of_three, not_beyond, strict}
use Rattle.df_column.proofs.LeafMinMax.{min_or_max_both}
use Rattle.df_column.proofs.ListParts.{drop_front, part_more, take_front, take_longer, take_taken}
use Rattle.df_column.proofs.SplicedMinMax.{min_or_max_with_commutes}
use Rattle.df_column.proofs.SpotLemmas.{block_length}

and_true : (b : Bool) → b ≡ (b && true)
and_true true = refl
and_true false = refl

one_block : (b : BlockParts) → rows_of_blocks (b ∷ []) ≡ block_rows b
one_block b = append-nil (block_rows b)

module _ (e : MinMax) where
  order : IsStrict (is_beyond e)
  order = strict e

  never_both : (l m : Cell) → is_beyond e m l ≡ true → is_beyond e l m ≡ true → false ≡ true
  never_both l m p q = sym (order.irrefl l) ∙ order.trans l m l q p

  -- what lies beyond the least or greatest of two lies beyond both
  beyond_two : (l m c : Cell) (p q r t : Bool) → is_beyond e m l ≡ p → is_beyond e c l ≡ q → is_beyond e c m ≡ r → is_beyond e l m ≡ t → is_beyond e c (cond p m l) ≡ (q && r)
  beyond_two l m c true true r t f g h k = h
  beyond_two l m c true false true t f g h k = absurd (false≢true (sym g ∙ order.trans c m l h f))
  beyond_two l m c true false false t f g h k = h
  beyond_two l m c false true true t f g h k = g
  beyond_two l m c false true false true f g h k = absurd (false≢true (sym h ∙ order.trans c l m g k))
  beyond_two l m c false true false false f g h k = absurd (false≢true (sym h ∙ (ap (is_beyond e c) (sym (order.apart l m k f)) ∙ g)))
  beyond_two l m c false false r t f g h k = g

  beyond_both : (a b : Option Cell) (c : Cell) → is_beyond_best e (min_or_max_with e a b) c ≡ (is_beyond_best e a c && is_beyond_best e b c)
  beyond_both None b c = refl
  beyond_both (Some l) None c = and_true (is_beyond e c l)
  beyond_both (Some l) (Some m) c = beyond_two l m c (is_beyond e m l) (is_beyond e c l) (is_beyond e c m) (is_beyond e l m) refl refl refl refl

  -- the least or greatest of some, which lies beyond another part of them, is that of the others
  other_half : (l m k : Cell) (p : Bool) → is_beyond e k m ≡ true → cond p m l ≡ k → l ≡ k
  other_half l m k true g h = absurd (false≢true (sym (order.irrefl m) ∙ (ap (λ z. is_beyond e z m) h ∙ g)))
  other_half l m k false g h = h

  without : (a b k : Option Cell) → min_or_max_with e a b ≡ k → ((c : Cell) → k ≡ Some c → is_beyond_best e b c ≡ true) → a ≡ k
  without None None k h g = h
  without None (Some m) None h g = cc
  without None (Some m) (Some k) h g =
      let same : m ≡ k = cc in
      absurd (false≢true (sym (order.irrefl m) ∙ (ap (λ z. is_beyond e z m) same ∙ g k refl)))
  without (Some l) None k h g = h
  without (Some l) (Some m) None h g = cc
  without (Some l) (Some m) (Some k) h g =
      let same : cond (is_beyond e m l) m l ≡ k = cc in
      ap Some (other_half l m k (is_beyond e m l) (g k refl) same)

  last_of_three : (a m c : Option Cell) → min_or_max_with e a (min_or_max_with e m c) ≡ min_or_max_with e (min_or_max_with e a c) m
  last_of_three a m c = ap (min_or_max_with e a) (min_or_max_with_commutes e m c) ∙ sym (min_or_max_of_three e a c m)

  -- where the furthest of some does not lie beyond a cell, this is the furthest of them and itself
  takes : (l n : Cell) (p : Bool) → is_beyond e n l ≡ p → is_beyond e l n ≡ false → cond p n l ≡ n
  takes l n true f g = refl
  takes l n false f g = order.apart l n g f

  behind_kept : (l m k : Cell) (p : Bool) → is_beyond e m l ≡ p → cond p m l ≡ k → is_beyond e l k ≡ false
  behind_kept l m k true f h = subst (λ z. is_beyond e l z ≡ false) h (one_way (is_beyond e l m) (never_both l m f)) where
    one_way : (b : Bool) → (b ≡ true → false ≡ true) → b ≡ false
    one_way true g = sym (g refl)
    one_way false g = refl
  behind_kept l m k false f h = subst (λ z. is_beyond e l z ≡ false) h (order.irrefl l)

  reached : (a b n k : Option Cell) → min_or_max_with e a b ≡ k → ((c : Cell) → k ≡ Some c → is_beyond_best e n c ≡ false) → (c : Cell) → k ≡ Some c → min_or_max_with e k n ≡ min_or_max_with e a n
  reached a b None k h g c is = absurd (false≢true (sym (g c is)))
  reached a b (Some n) None h g c is = cc
  reached None b (Some n) (Some k) h g c is = ap Some (takes k n (is_beyond e n k) refl (g k refl))
  reached (Some l) None (Some n) (Some k) h g c is = ap (λ o. min_or_max_with e o (Some n)) (sym h)
  reached (Some l) (Some m) (Some n) (Some k) h g c is =
      let same : cond (is_beyond e m l) m l ≡ k = cc in
      let behind = not_beyond e l k n (behind_kept l m k (is_beyond e m l) refl same) (g k refl) in
      ap Some (takes k n (is_beyond e n k) refl (g k refl) ∙ sym (takes l n (is_beyond e n l) refl behind))

  parts : (a b c : List BlockParts) (i : ℕ) → min_or_max_cell e (a ++ (b ++ c)) i ≡ min_or_max_with e (min_or_max_with e (min_or_max_cell e a i) (min_or_max_cell e c i)) (min_or_max_cell e b i)
  parts a b c i = min_or_max_both e a (b ++ c) i ∙ ap (min_or_max_with e (min_or_max_cell e a i)) (min_or_max_both e b c i) ∙ last_of_three (min_or_max_cell e a i) (min_or_max_cell e b i) (min_or_max_cell e c i)

  -- other blocks in the place of some: the kept cell lies beyond the old ones, or not beyond the new ones
  module _ (old new a m n c : List BlockParts) (i : ℕ) (kept : Option Cell) (is : old ≡ a ++ (m ++ c)) (made : new ≡ a ++ (n ++ c)) (k : kept ≡ min_or_max_cell e old i) where
    abbrev others : Option Cell
    others = min_or_max_with e (min_or_max_cell e a i) (min_or_max_cell e c i)

    whole : min_or_max_with e others (min_or_max_cell e m i) ≡ kept
    whole = sym (parts a m c i) ∙ ap (λ bs. min_or_max_cell e bs i) (sym is) ∙ sym k

    with_new : min_or_max_with e others (min_or_max_cell e n i) ≡ min_or_max_cell e new i
    with_new = sym (parts a n c i) ∙ ap (λ bs. min_or_max_cell e bs i) (sym made)

    pub staying_min_or_max : (stays : Bool) → IfSome kept (λ x. stays ≡ is_beyond_best e (min_or_max_cell e m i) x) → stays ≡ true → min_or_max_with e kept (min_or_max_cell e n i) ≡ min_or_max_cell e new i
    staying_min_or_max stays h t =
        let rest = without others (min_or_max_cell e m i) kept whole (λ x there. sym (subst (λ o. IfSome o (λ x. stays ≡ is_beyond_best e (min_or_max_cell e m i) x)) there h) ∙ t) in
        ap (λ o. min_or_max_with e o (min_or_max_cell e n i)) (sym rest) ∙ with_new

    reached_if : (o : Option Cell) (stays is_short : Bool) → kept ≡ o → IfNone o (stays ≡ true) → stays ≡ false → IfSome o (λ x. is_short ≡ is_beyond_best e (min_or_max_cell e n i) x) → is_short ≡ false → min_or_max_with e kept (min_or_max_cell e n i) ≡ min_or_max_cell e new i
    reached_if None stays is_short there none f h g = absurd (false≢true (sym f ∙ none))
    reached_if (Some x) stays is_short there none f h g =
        reached others (min_or_max_cell e m i) (min_or_max_cell e n i) kept whole
        (λ y at. let same : x ≡ y = cc (there, at) in subst (λ z. is_beyond_best e (min_or_max_cell e n i) z ≡ false) same (sym h ∙ g)) x there
        ∙ with_new

    pub reached_min_or_max : (stays is_short : Bool) → IfNone kept (stays ≡ true) → stays ≡ false → IfSome kept (λ x. is_short ≡ is_beyond_best e (min_or_max_cell e n i) x) → is_short ≡ false → min_or_max_with e kept (min_or_max_cell e n i) ≡ min_or_max_cell e new i
    reached_min_or_max stays is_short none f h g = reached_if kept stays is_short refl none f h g

  -- the cells of one block more
  pub beyond_more : (bs : List BlockParts) (low at i : ℕ) (b d : BlockParts) (c : Cell) (r : Bool) → low ≤ at → at < length bs → b ≡ get_or bs at b → d ≡ b
      → is_beyond_best e (min_or_max_cell e (drop low (take at bs)) i) c ≡ true
      → r ≡ is_beyond_best e (min_or_max_of e (cells_at (Some i) (map (λ r. r.1) (block_rows d)))) c
      → is_beyond_best e (min_or_max_cell e (drop low (take (at + 1) bs)) i) c ≡ r
  beyond_more bs low at i b d c r le lt is same so_far made =
      ap (λ cs. is_beyond_best e (min_or_max_cell e cs i) c) (part_more bs low at b le lt is)
      ∙ ap (λ o. is_beyond_best e o c) (min_or_max_both e (drop low (take at bs)) (b ∷ []) i)
      ∙ beyond_both (min_or_max_cell e (drop low (take at bs)) i) (min_or_max_cell e (b ∷ []) i) c
      ∙ ap (λ t. t && is_beyond_best e (min_or_max_cell e (b ∷ []) i) c) so_far
      ∙ ap (λ rs. is_beyond_best e (min_or_max_of e (cells_at (Some i) (map (λ r. r.1) rs))) c) (one_block b)
      ∙ ap (λ d. is_beyond_best e (min_or_max_of e (cells_at (Some i) (map (λ r. r.1) (block_rows d)))) c) (sym same)
      ∙ sym made

  -- not beyond the first of them, and so not beyond all
  pub not_beyond_all : (bs : List BlockParts) (low mid high i : ℕ) (c : Cell) → low ≤ mid → mid ≤ high
      → is_beyond_best e (min_or_max_cell e (drop low (take mid bs)) i) c ≡ false
      → false ≡ is_beyond_best e (min_or_max_cell e (drop low (take high bs)) i) c
  not_beyond_all bs low mid high i c p q h =
      sym (ap (λ cs. is_beyond_best e (min_or_max_cell e cs i) c) (sym (take_longer bs low mid high p q))
      ∙ ap (λ o. is_beyond_best e o c) (min_or_max_both e (drop low (take mid bs)) (drop mid (take high bs)) i)
      ∙ beyond_both (min_or_max_cell e (drop low (take mid bs)) i) (min_or_max_cell e (drop mid (take high bs)) i) c
      ∙ ap (λ t. t && is_beyond_best e (min_or_max_cell e (drop mid (take high bs)) i) c) h)

-- an edit is a run in three parts of which the middle one is another
pub record IsSplicedIn (old : List BlockParts) (low high : ℕ) (new : List BlockParts) (end : ℕ) : Type 0 where
  pub was : old ≡ take low old ++ (drop low (take high old) ++ drop high old)
  pub is : new ≡ take low old ++ (drop low (take end new) ++ drop high old)
  pub ordered : low ≤ end
  pub in_range : end ≤ length new

pub three_of_splice : (old new : List BlockParts) (low high end : ℕ) → IsSpliceOf old low high new → end ≡ length new - (length old - high) → IsSplicedIn old low high new end
three_of_splice old new low high end h e =
    record {
      was = sym (take-append-drop high old) ∙ ap (λ bs. bs ++ drop high old) (sym (take-append-drop low (take high old)) ∙ ap (λ bs. bs ++ drop low (take high old)) (take_taken low high old h.ordered)) ∙ append_assoc (take low old) (drop low (take high old)) (drop high old);
      is = h.is ∙ ap (λ bs. take low old ++ (bs ++ drop high old)) (sym part);
      ordered = omega (arith, ends);
      in_range = omega (arith, long, ends);
    }
  where
    front : length (take low old) ≡ low
    front = let t = length-take low old in let o = h.ordered in let r = h.in_range in omega (arith, t, o, r)

    long : length new ≡ low + (length h.others + (length old - high))
    long = ap length h.is ∙ length-append (take low old) (h.others ++ drop high old)
        ∙ (λ i. front i + (length-append h.others (drop high old) ∙ ap (λ n. length h.others + n) (length-drop high old)) i)

    ends : end ≡ low + length h.others
    ends = let l = long in let r = h.in_range in omega (arith, l, r, e)

    part : drop low (take end new) ≡ h.others
    part =
        let f : end ≡ length (take low old) + length h.others = omega (arith, ends, front) in
        ap (λ bs. drop low (take end bs)) h.is
        ∙ ap (λ n. drop low (take n (take low old ++ (h.others ++ drop high old)))) f
        ∙ ap (drop low) (take-append-add (take low old) (h.others ++ drop high old) (length h.others) ∙ ap (λ bs. take low old ++ bs) (take_front h.others (drop high old) (length h.others) refl))
        ∙ drop_front (take low old) h.others low 0 (omega (arith, front))

-- the first tag stays
head_kept : (xs ys zs : List (Tag × List Cell)) (t : Tag) → 0 < length xs → IsHead (xs ++ ys) t → IsHead (xs ++ zs) t
head_kept [] ys zs t lt h = absurd (omega arith)
head_kept (x ∷ xs) ys zs t lt h = h

pub head_of_splice : (old new : List BlockParts) (low high : ℕ) (t : Tag) → IsSpliceOf old low high new → 0 < low → HaveRows old → IsHead (rows_of_blocks old) t → IsHead (rows_of_blocks new) t
head_of_splice [] new low high t h some rows first = absurd (omega (arith, h.ordered, h.in_range, some))
head_of_splice (b ∷ bs) new zero high t h some rows first = absurd (omega arith)
head_of_splice (b ∷ bs) new (suc low) high t h some rows first =
    let rest = take low bs ++ (h.others ++ drop high (b ∷ bs)) in
    let l = block_length b in
    subst (λ cs. IsHead (rows_of_blocks cs) t) (sym h.is) (head_kept (block_rows b) (rows_of_blocks bs) (rows_of_blocks rest) t (omega (arith, l, rows.0)) first)
