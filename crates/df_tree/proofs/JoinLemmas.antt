-- Parts that are put behind others, and joined.
use Rattle.std.proofs.Common.{◌≡◌, ◌≤◌, ◌<◌, ◌+◌, ◌-◌, ℕ, zero, suc, List, [], ◌∷◌, ◌++◌, length, map, refl, sym, ap, ◌∙◌, arith, subst, length-append, append_assoc}
use Rattle.std.specs.Prelude.{take, drop, get_or, max}
use Rattle.std.proofs.lemmas.List.{append-nil, length-map}
use Rattle.std.proofs.Math.Seq.{split_at}
use Rattle.df_tree.specs.Leaves.{alike, items, items_of_parts, leaves_of_parts, rank_above, whole_of}
use Rattle.df_tree.specs.Level.{AllParts, AreLevel}
use Rattle.df_tree.specs.Puts.{ArePut}
use Rattle.df_tree.proofs.LeafLemmas.{alike_whole, items-append, leaves-append}
use Rattle.df_tree.proofs.HalfLemmas.{leaves_halves, rejoined}
use Rattle.df_tree.proofs.LevelLemmas.{back_piece, front_piece, level_of, part_at, parts_alike, parts_drop, parts_take, rank_over_parts, some_items}

-- parts of a node of this rank, which hold these items
pub record IsWhole {I : Type 0} (rank : ℕ) (xs : List I) (ks : List (List (List I × ℕ) × ℕ)) : Type 0 where
  pub level : AreLevel {I = I} ks
  pub some : 0 < length ks
  pub rank_is : rank_above {I = I} ks ≡ rank
  pub holds : items_of_parts {I = I} ks ≡ xs

none_behind : {X : Type 0} (xs : List X) (n : ℕ) → length xs ≤ n → drop n xs ≡ []
none_behind [] zero h = refl
none_behind [] (suc n) h = refl
none_behind (x ∷ xs) zero h = absurd (omega (arith, h))
none_behind (x ∷ xs) (suc n) h = none_behind xs n (omega (arith, h))

module _ {I : Type 0} where
  pub items-parts : (ks ls : List (List (List I × ℕ) × ℕ)) → items_of_parts {I = I} (ks ++ ls) ≡ items_of_parts {I = I} ks ++ items_of_parts {I = I} ls
  items-parts ks ls = ap (λ l. items {I = I} l) (leaves-append {I = I} ks ls) ∙ items-append {I = I} (leaves_of_parts {I = I} ks) (leaves_of_parts {I = I} ls)

  items-part : (k : List (List I × ℕ) × ℕ) → items_of_parts {I = I} (k ∷ []) ≡ items {I = I} k.0
  items-part k = items-append {I = I} k.0 [] ∙ append-nil (items {I = I} k.0)

  pub items-two : (k l : List (List I × ℕ) × ℕ) → items_of_parts {I = I} (k ∷ l ∷ []) ≡ items {I = I} k.0 ++ items {I = I} l.0
  items-two k l = items-append {I = I} k.0 (l.0 ++ []) ∙ ap (λ is. items {I = I} k.0 ++ is) (items-part l)

  parts_append : (r : ℕ) (ks ls : List (List (List I × ℕ) × ℕ)) → AllParts {I = I} r ks → AllParts {I = I} r ls → AllParts {I = I} r (ks ++ ls)
  parts_append r [] ls a b = b
  parts_append r (k ∷ ks) ls a b = (a.0, parts_append r ks ls a.1 b)

  pub put_as : (r s : ℕ) (xs ys : List I) (old new : List (List (List I × ℕ) × ℕ)) → r ≡ s → xs ≡ ys → ArePut {I = I} r xs old new → ArePut {I = I} s ys old new
  put_as r s xs ys old new e f p = subst (λ s. ArePut {I = I} s ys old new) e (record { more = p.more; put = p.put; parts = p.parts; holds = p.holds ∙ f; some = p.some; few = p.few })

  -- a leaf, and two
  pub put_leaf : (old new : List (List (List I × ℕ) × ℕ)) (k : List (List I × ℕ) × ℕ) (xs : List I) → new ≡ old ++ k ∷ [] → items {I = I} k.0 ≡ xs → k.1 ≡ 0 → 0 < length xs → ArePut {I = I} 0 xs old new
  put_leaf old new k xs e f r n = record {
    more = k ∷ [];
    put = e;
    parts = (record { rank_is = r; some = let m = ap length f in omega (arith, m, n) }, tt);
    holds = items-part k ∙ f;
    some = omega arith;
    few = λ h. omega arith;
  }

  pub put_leaves : (old new : List (List (List I × ℕ) × ℕ)) (k l : List (List I × ℕ) × ℕ) (n : ℕ) (fs bs xs : List I) → new ≡ (old ++ k ∷ []) ++ l ∷ [] → items {I = I} k.0 ≡ fs → items {I = I} l.0 ≡ bs → k.1 ≡ 0 → l.1 ≡ 0
      → fs ≡ take n xs → bs ≡ drop n xs → 0 < length fs → 0 < length bs → ArePut {I = I} 0 xs old new
  put_leaves old new k l n fs bs xs e f b r s cut rest m o = record {
    more = k ∷ l ∷ [];
    put = e ∙ append_assoc old (k ∷ []) (l ∷ []);
    parts = (record { rank_is = r; some = let d = ap length f in omega (arith, d, m) }, (record { rank_is = s; some = let d = ap length b in omega (arith, d, o) }, tt));
    holds = items-two k l ∙ ap (λ is. is ++ items {I = I} l.0) (f ∙ cut) ∙ ap (λ is. take n xs ++ is) (b ∙ rest) ∙ sym (rejoined n xs);
    some = omega arith;
    few = λ h. omega arith;
  }

  -- a node over parts, and two
  pub put_node : (old new ps : List (List (List I × ℕ) × ℕ)) (k : List (List I × ℕ) × ℕ) → new ≡ old ++ k ∷ [] → alike {I = I} k ≡ alike {I = I} (whole_of {I = I} ps) → AreLevel {I = I} ps → 0 < length ps
      → ArePut {I = I} (rank_above {I = I} ps) (items_of_parts {I = I} ps) old new
  put_node old new ps k e a v n = record {
    more = k ∷ [];
    put = e;
    parts = (record { rank_is = ap (λ p. p.1) a; some = let m = ap (λ p. length p.0) a in let s = some_items {I = I} _ ps v n in omega (arith, m, s) }, tt);
    holds = items-part k ∙ ap (λ p. p.0) a;
    some = omega arith;
    few = λ h. absurd (omega (arith, h));
  }

  pub put_nodes : (old new ps ks ls : List (List (List I × ℕ) × ℕ)) (n : ℕ) (k l : List (List I × ℕ) × ℕ) → new ≡ (old ++ k ∷ []) ++ l ∷ [] → alike {I = I} k ≡ alike {I = I} (whole_of {I = I} ks) → alike {I = I} l ≡ alike {I = I} (whole_of {I = I} ls)
      → ks ≡ take n ps → ls ≡ drop n ps → AreLevel {I = I} ps → 0 < n → n < length ps → rank_above {I = I} ps < 63 → ArePut {I = I} (rank_above {I = I} ps) (items_of_parts {I = I} ps) old new
  put_nodes old new ps ks ls n k l e a b f g v low high r =
      let front = front_piece {I = I} ps ks n f v low (omega (arith, high)) in
      let back = back_piece {I = I} ps ls n g v high in
      record {
        more = k ∷ l ∷ [];
        put = e ∙ append_assoc old (k ∷ []) (l ∷ []);
        parts = (
          record { rank_is = ap (λ p. p.1) a ∙ front.1.0; some = let m = ap (λ p. length p.0) a in let s = front.1.1 in omega (arith, m, s) },
          (record { rank_is = ap (λ p. p.1) b ∙ back.1.0; some = let m = ap (λ p. length p.0) b in let s = back.1.1 in omega (arith, m, s) }, tt),
        );
        holds =
            items-two k l ∙ ap (λ is. is ++ items {I = I} l.0) (ap (λ p. p.0) a) ∙ ap (λ is. items_of_parts {I = I} ks ++ is) (ap (λ p. p.0) b)
            ∙ sym (ap (λ l. items {I = I} l) (leaves_halves {I = I} ps ks ls n f g) ∙ items-append {I = I} (leaves_of_parts {I = I} ks) (leaves_of_parts {I = I} ls));
        some = omega arith;
        few = λ h. r;
      }

  -- the parts of a node, where all are of one rank
  whole : (r : ℕ) (ps ks : List (List (List I × ℕ) × ℕ)) (xs : List I) → AllParts {I = I} r ps → 0 < length ps → AllParts {I = I} r ks → 0 < length ks → items_of_parts {I = I} ks ≡ xs → IsWhole {I = I} (rank_above {I = I} ps) xs ks
  whole r ps ks xs a n b m e = record { level = level_of {I = I} r ks b; some = m; rank_is = rank_over_parts {I = I} r ks b m ∙ sym (rank_over_parts {I = I} r ps a n); holds = e }

  held_alike : (ks ls : List (List (List I × ℕ) × ℕ)) → map (alike {I = I}) ks ≡ map (alike {I = I}) ls → items_of_parts {I = I} ks ≡ items_of_parts {I = I} ls
  held_alike ks ls e = ap (λ p. p.0) (alike_whole {I = I} ks ls e)

  cut_at : (ps : List (List (List I × ℕ) × ℕ)) (at : ℕ) (k : List (List I × ℕ) × ℕ) → at < length ps → k ≡ get_or ps at k → ps ≡ take at ps ++ k ∷ drop (suc at) ps
  cut_at ps at k h e = split_at ps at k h ∙ ap (λ l. take at ps ++ l ∷ drop (suc at) ps) (sym e)

  -- parts in the place of one of them, where those before and behind it are copied
  pub patched : (ps front back mid made : List (List (List I × ℕ) × ℕ)) (at : ℕ) (k : List (List I × ℕ) × ℕ) (r : ℕ) (xs : List I) → AreLevel {I = I} ps → at < length ps → k ≡ get_or ps at k → r ≡ k.1
      → map (alike {I = I}) front ≡ map (alike {I = I}) (take at ps) → map (alike {I = I}) back ≡ map (alike {I = I}) (drop (suc at) ps) → ArePut {I = I} r xs front mid → made ≡ mid ++ back
      → IsWhole {I = I} (rank_above {I = I} ps) (items_of_parts {I = I} (take at ps) ++ (xs ++ items_of_parts {I = I} (drop (suc at) ps))) made
  patched ps front back mid made at k r xs v h e f a b p m =
      let own = part_at {I = I} _ at ps k v h e in
      let rank : r ≡ rank_above {I = I} ps - 1 = f ∙ own.rank_is in
      let all : made ≡ front ++ (p.more ++ back) = m ∙ ap (λ l. l ++ back) p.put ∙ append_assoc front p.more back in
      let n = ap length all in
      let o = length-append front (p.more ++ back) in
      let q = length-append p.more back in
      let more = subst (λ r. AllParts {I = I} r p.more) rank p.parts in
      whole (rank_above {I = I} ps - 1) ps made _ v (omega (arith, h))
      (subst (AllParts {I = I} (rank_above {I = I} ps - 1)) (sym all)
      (parts_append _ front (p.more ++ back) (parts_alike {I = I} _ (take at ps) front (sym a) (parts_take {I = I} _ at ps v))
      (parts_append _ p.more back more (parts_alike {I = I} _ (drop (suc at) ps) back (sym b) (parts_drop {I = I} _ (suc at) ps v)))))
      (omega (arith, n, o, q, p.some))
      (ap (λ l. items_of_parts {I = I} l) all ∙ items-parts front (p.more ++ back) ∙ ap (λ is. is ++ items_of_parts {I = I} (p.more ++ back)) (held_alike front (take at ps) a)
      ∙ ap (λ is. items_of_parts {I = I} (take at ps) ++ is) (items-parts p.more back ∙ ap (λ is. is ++ items_of_parts {I = I} back) p.holds ∙ ap (λ is. xs ++ is) (held_alike back (drop (suc at) ps) b)))

  items_cut : (ps : List (List (List I × ℕ) × ℕ)) (at : ℕ) (k : List (List I × ℕ) × ℕ) → at < length ps → k ≡ get_or ps at k
      → items_of_parts {I = I} ps ≡ items_of_parts {I = I} (take at ps) ++ (items {I = I} k.0 ++ items_of_parts {I = I} (drop (suc at) ps))
  items_cut ps at k h e = ap (λ l. items_of_parts {I = I} l) (cut_at ps at k h e) ∙ items-parts (take at ps) (k ∷ drop (suc at) ps) ∙ ap (λ is. items_of_parts {I = I} (take at ps) ++ is) (items-append {I = I} k.0 (leaves_of_parts {I = I} (drop (suc at) ps)))

  -- others joined to the last part, and to the first
  pub joined_last : (ps front made : List (List (List I × ℕ) × ℕ)) (at : ℕ) (k : List (List I × ℕ) × ℕ) (b : ℕ) (ys : List I) → AreLevel {I = I} ps → length ps ≡ at + 1 → k ≡ get_or ps at k → b < rank_above {I = I} ps
      → map (alike {I = I}) front ≡ map (alike {I = I}) (take at ps) → ArePut {I = I} (max k.1 b) (items {I = I} k.0 ++ ys) front made → IsWhole {I = I} (rank_above {I = I} ps) (items_of_parts {I = I} ps ++ ys) made
  joined_last ps front made at k b ys v n e low a p =
      let h : at < length ps = omega (arith, n) in
      let own = part_at {I = I} _ at ps k v h e in
      let rest : drop (suc at) ps ≡ [] = none_behind ps (suc at) (omega (arith, n)) in
      let w = patched ps front [] made made at k (max k.1 b) (items {I = I} k.0 ++ ys) v h e (omega (arith, own.rank_is, low)) a (ap (λ l. map (alike {I = I}) l) (sym rest)) p (sym (append-nil made)) in
      let x : List I = items_of_parts {I = I} (take at ps) in
      let y : List I = items {I = I} k.0 in
      let none : items_of_parts {I = I} (drop (suc at) ps) ≡ [] = ap (λ l. items_of_parts {I = I} l) rest in
      let mine : items_of_parts {I = I} ps ≡ x ++ y = items_cut ps at k h e ∙ ap (λ is. x ++ (y ++ is)) none ∙ ap (λ is. x ++ is) (append-nil y) in
      record {
        level = w.level;
        some = w.some;
        rank_is = w.rank_is;
        holds = w.holds ∙ ap (λ is. x ++ ((y ++ ys) ++ is)) none ∙ ap (λ is. x ++ is) (append-nil (y ++ ys)) ∙ sym (append_assoc x y ys) ∙ ap (λ is. is ++ ys) (sym mine);
      }

  pub joined_first : (ps rest mid made : List (List (List I × ℕ) × ℕ)) (k : List (List I × ℕ) × ℕ) (b : ℕ) (ys : List I) → AreLevel {I = I} ps → 0 < length ps → k ≡ get_or ps 0 k → b < rank_above {I = I} ps
      → map (alike {I = I}) rest ≡ map (alike {I = I}) (drop 1 ps) → ArePut {I = I} (max b k.1) (ys ++ items {I = I} k.0) [] mid → made ≡ mid ++ rest → IsWhole {I = I} (rank_above {I = I} ps) (ys ++ items_of_parts {I = I} ps) made
  joined_first ps rest mid made k b ys v h e low a p m =
      let own = part_at {I = I} _ 0 ps k v h e in
      let w = patched ps [] rest mid made 0 k (max b k.1) (ys ++ items {I = I} k.0) v h e (omega (arith, own.rank_is, low)) refl a p m in
      record {
        level = w.level;
        some = w.some;
        rank_is = w.rank_is;
        holds = w.holds ∙ append_assoc ys (items {I = I} k.0) (items_of_parts {I = I} (drop 1 ps)) ∙ ap (λ is. ys ++ is) (sym (items_cut ps 0 k h e));
      }

  -- the parts of two nodes of one rank
  pub joined_both : (ps qs fs bs made : List (List (List I × ℕ) × ℕ)) → AreLevel {I = I} ps → AreLevel {I = I} qs → 0 < length ps → rank_above {I = I} ps ≡ rank_above {I = I} qs → map (alike {I = I}) fs ≡ map (alike {I = I}) ps
      → map (alike {I = I}) bs ≡ map (alike {I = I}) qs → made ≡ fs ++ bs → IsWhole {I = I} (rank_above {I = I} ps) (items_of_parts {I = I} ps ++ items_of_parts {I = I} qs) made
  joined_both ps qs fs bs made v w n r a b m =
      let r' : rank_above {I = I} qs - 1 ≡ rank_above {I = I} ps - 1 = omega (arith, r) in
      let f = parts_alike {I = I} _ ps fs (sym a) v in
      let g = parts_alike {I = I} _ qs bs (sym b) (subst (λ n. AllParts {I = I} n qs) r' w) in
      let l = ap length m in
      let o = length-append fs bs in
      let q : length fs ≡ length ps = sym (length-map fs (alike {I = I})) ∙ ap length a ∙ length-map ps (alike {I = I}) in
      whole (rank_above {I = I} ps - 1) ps made _ v n (subst (AllParts {I = I} (rank_above {I = I} ps - 1)) (sym m) (parts_append _ fs bs f g)) (omega (arith, l, o, q, n))
      (ap (λ l. items_of_parts {I = I} l) m ∙ items-parts fs bs ∙ ap (λ is. is ++ items_of_parts {I = I} bs) (held_alike fs ps a) ∙ ap (λ is. items_of_parts {I = I} ps ++ is) (held_alike bs qs b))

  -- no parts, and one
  pub no_parts : (ks : List (List (List I × ℕ) × ℕ)) → rank_above {I = I} ks ≡ 0 → length (items_of_parts {I = I} ks) ≡ 0
  no_parts [] e = refl
  no_parts (k ∷ ks) e = absurd (omega (arith, e))

  pub last_parts : (ks : List (List (List I × ℕ) × ℕ)) → 0 < rank_above {I = I} ks → 0 < length ks
  last_parts [] h = absurd (omega (arith, h))
  last_parts (k ∷ ks) h = omega arith

  pub some_parts : (ks : List (List (List I × ℕ) × ℕ)) → 0 < length (items_of_parts {I = I} ks) → 0 < length ks
  some_parts [] h = absurd (omega (arith, h))
  some_parts (k ∷ ks) h = omega arith

  pub no_part : (ks : List (List (List I × ℕ) × ℕ)) → length ks ≡ 0 → items_of_parts {I = I} ks ≡ []
  no_part [] e = refl
  no_part (k ∷ ks) e = absurd (omega (arith, e))

  -- a part of a node holds an item, and is lower
  pub part_holds : (ps : List (List (List I × ℕ) × ℕ)) (at : ℕ) (k : List (List I × ℕ) × ℕ) → AreLevel {I = I} ps → at < length ps → k ≡ get_or ps at k → (0 < length (items {I = I} k.0)) × (k.1 + 1 ≡ rank_above {I = I} ps)
  part_holds ps at k v h e =
      let own = part_at {I = I} _ at ps k v h e in
      let m = rank_over_parts {I = I} _ ps v (omega (arith, h)) in
      (own.some, omega (arith, own.rank_is, m))

  -- parts that were put where there was none are parts of one node
  pub put_whole : (r : ℕ) (xs : List I) (made : List (List (List I × ℕ) × ℕ)) → ArePut {I = I} r xs [] made → AreLevel {I = I} made × ((1 < length made → rank_above {I = I} made < 64) × (items_of_parts {I = I} made ≡ xs))
  put_whole r xs made p =
      let a = subst (AllParts {I = I} r) (sym p.put) p.parts in
      let l = ap length p.put in
      let n = rank_over_parts {I = I} r made a (omega (arith, l, p.some)) in
      (level_of {I = I} r made a, (λ h. let f = p.few (omega (arith, l, h)) in omega (arith, n, f), ap (λ l. items_of_parts {I = I} l) p.put ∙ p.holds))
