-- Plans that are ready in leaves.
use Rattle.std.proofs.Common.{◌≡◌, ◌≤◌, ◌<◌, ◌+◌, ℕ, zero, suc, List, [], ◌∷◌, ◌++◌, length, map, refl, sym, ap, ◌∙◌, arith, length-append, subst}
use Rattle.df_tree.specs.Leaves.{items, one_more, same, total, Kept, Ready, Reserved}
use Rattle.df_tree.proofs.LeafLemmas.{items-append, items-shared}

-- plans that agree below a number
pub total_agree : (p q : ℕ → ℕ) (n : ℕ) → ((i : ℕ) → i < n → p i ≡ q i) → total p n ≡ total q n
total_agree p q zero h = refl
total_agree p q (suc n) h =
    let first = h 0 (omega arith) in
    let more = total_agree (λ i. p (suc i)) (λ i. q (suc i)) n (λ i l. h (suc i) (omega (arith, l))) in
    omega (arith, first, more)

pub total_sum : (p : ℕ → ℕ) (m n : ℕ) → total p (m + n) ≡ total p m + total (λ i. p (m + i)) n
total_sum p zero n =
    let e : 0 + n ≡ n = omega arith in
    let f = total_agree p (λ i. p (0 + i)) n (λ i l. let g : i ≡ 0 + i = omega arith in ap p g) in
    let d = ap (total p) e in
    omega (arith, d, f)
total_sum p (suc m) n =
    let e : suc m + n ≡ suc (m + n) = omega arith in
    let d = ap (total p) e in
    let more = total_sum (λ i. p (suc i)) m n in
    let f = total_agree (λ i. p (suc (m + i))) (λ i. p (suc m + i)) n (λ i l. let g : suc (m + i) ≡ suc m + i = omega arith in ap p g) in
    omega (arith, d, more, f)

pub same_past : (n i j : ℕ) → same (n + i) (n + j) ≡ same i j
same_past zero i j = let e : 0 + i ≡ i = omega arith in let f : 0 + j ≡ j = omega arith in ap (λ a. same a (0 + j)) e ∙ ap (same i) f
same_past (suc n) i j = let e : suc n + i ≡ suc (n + i) = omega arith in let f : suc n + j ≡ suc (n + j) = omega arith in ap (λ a. same a (suc n + j)) e ∙ ap (same (suc (n + i))) f ∙ same_past n i j

pub same_below : (i j : ℕ) → i < j → same i j ≡ 0
same_below zero zero h = absurd (omega (arith, h))
same_below zero (suc j) h = refl
same_below (suc i) zero h = absurd (omega (arith, h))
same_below (suc i) (suc j) h = same_below i j (omega (arith, h))

pub same_above : (i j : ℕ) → j < i → same i j ≡ 0
same_above zero zero h = absurd (omega (arith, h))
same_above zero (suc j) h = absurd (omega (arith, h))
same_above (suc i) zero h = refl
same_above (suc i) (suc j) h = same_above i j (omega (arith, h))

pub total_one_more : (p : ℕ → ℕ) (j n : ℕ) → j < n → total (one_more p j) n ≡ total p n + 1
total_one_more p j zero h = absurd (omega (arith, h))
total_one_more p zero (suc n) h =
    let f = total_agree (λ i. p (suc i) + 0) (λ i. p (suc i)) n (λ i l. omega arith) in
    omega (arith, f)
total_one_more p (suc j) (suc n) h =
    let more = total_one_more (λ i. p (suc i)) j n (omega (arith, h)) in
    omega (arith, more)

no_items : {X : Type 0} (xs : List X) → length xs ≡ 0 → xs ≡ []
no_items [] n = refl
no_items (x ∷ xs) n = absurd (omega (arith, n))

module _ {I : Type 0} where
  pub ready_agree : (p q : ℕ → ℕ) (rs : List (List I × ℕ)) → ((i : ℕ) → i < length (items {I = I} rs) → p i ≡ q i) → Ready {I = I} p rs → Ready {I = I} q rs
  ready_agree p q [] h r = tt
  ready_agree p q (x ∷ rs) h r =
      let n = length-append x.0 (items {I = I} rs) in
      let first = total_agree p q (length x.0) (λ i l. h i (omega (arith, n, l))) in
      let here = r.0 in
      (omega (arith, first, here), ready_agree (λ i. p (length x.0 + i)) (λ i. q (length x.0 + i)) rs (λ i l. h (length x.0 + i) (omega (arith, n, l))) r.1)

  pub ready_split : (p : ℕ → ℕ) (rs ss : List (List I × ℕ)) → Ready {I = I} p (rs ++ ss) → Ready {I = I} p rs × Ready {I = I} (λ i. p (length (items {I = I} rs) + i)) ss
  ready_split p [] ss r = (tt, ready_agree p (λ i. p (0 + i)) ss (λ i l. let e : i ≡ 0 + i = omega arith in ap p e) r)
  ready_split p (x ∷ rs) ss r =
      let more = ready_split (λ i. p (length x.0 + i)) rs ss r.1 in
      let n = length-append x.0 (items {I = I} rs) in (
        (r.0, more.0),
        ready_agree (λ i. p (length x.0 + (length (items {I = I} rs) + i))) (λ i. p (length (items {I = I} (x ∷ rs)) + i)) ss
            (λ i l. let e : length x.0 + (length (items {I = I} rs) + i) ≡ length (items {I = I} (x ∷ rs)) + i = omega (arith, n) in ap p e) more.1,
      )

  pub ready_join : (p : ℕ → ℕ) (rs ss : List (List I × ℕ)) → Ready {I = I} p rs → Ready {I = I} (λ i. p (length (items {I = I} rs) + i)) ss → Ready {I = I} p (rs ++ ss)
  ready_join p [] ss r s = ready_agree (λ i. p (0 + i)) p ss (λ i l. let e : 0 + i ≡ i = omega arith in ap p e) s
  ready_join p (x ∷ rs) ss r s =
      let n = length-append x.0 (items {I = I} rs) in (
        r.0,
        ready_join (λ i. p (length x.0 + i)) rs ss r.1 (ready_agree (λ i. p (length (items {I = I} (x ∷ rs)) + i)) (λ i. p (length x.0 + (length (items {I = I} rs) + i))) ss
            (λ i l. let e : length (items {I = I} (x ∷ rs)) + i ≡ length x.0 + (length (items {I = I} rs) + i) = omega (arith, n) in ap p e) s),
      )

  -- where there is no room nothing is planned
  pub none_planned : (p : ℕ → ℕ) (rs : List (List I × ℕ)) → Ready {I = I} p (map (λ r. (r.0, 0)) rs) → total p (length (items {I = I} rs)) ≡ 0
  none_planned p [] r = refl
  none_planned p (x ∷ rs) r =
      let n = length-append x.0 (items {I = I} rs) in
      let d = ap (total p) n in
      let sum = total_sum p (length x.0) (length (items {I = I} rs)) in
      let more = none_planned (λ i. p (length x.0 + i)) rs r.1 in
      let here = r.0 in
      omega (arith, d, sum, more, here)

  pub ready_none : (p : ℕ → ℕ) (rs : List (List I × ℕ)) → total p (length (items {I = I} rs)) ≡ 0 → Ready {I = I} p rs
  ready_none p [] h = tt
  ready_none p (x ∷ rs) h =
      let n = length-append x.0 (items {I = I} rs) in
      let d = ap (total p) n in
      let sum = total_sum p (length x.0) (length (items {I = I} rs)) in
      (omega (arith, d, sum, h), ready_none (λ i. p (length x.0 + i)) rs (omega (arith, d, sum, h)))

  pub kept_refl : (rs : List (List I × ℕ)) → Kept {I = I} rs rs
  kept_refl rs = record { items = refl; ready = λ p r. r }

  pub kept_eq : (rs ss : List (List I × ℕ)) → ss ≡ rs → Kept {I = I} rs ss
  kept_eq rs ss e = subst (λ x. Kept {I = I} rs x) (sym e) (kept_refl rs)

  pub kept_trans : (rs ss us : List (List I × ℕ)) → Kept {I = I} rs ss → Kept {I = I} ss us → Kept {I = I} rs us
  kept_trans rs ss us a b = record { items = b.items ∙ a.items; ready = λ p r. b.ready p (a.ready p r) }

  pub kept_length : (rs ss : List (List I × ℕ)) → Kept {I = I} rs ss → length (items {I = I} ss) ≡ length (items {I = I} rs)
  kept_length rs ss k = ap length k.items

  pub kept-append : (rs ss us vs : List (List I × ℕ)) → Kept {I = I} rs ss → Kept {I = I} us vs → Kept {I = I} (rs ++ us) (ss ++ vs)
  kept-append rs ss us vs a b = record {
    items = items-append {I = I} ss vs ∙ ap (λ l. l ++ items {I = I} vs) a.items ∙ ap (λ l. items {I = I} rs ++ l) b.items ∙ sym (items-append {I = I} rs us);
    ready = λ p r.
        let both = ready_split p rs us r in
        let n = kept_length rs ss a in
        ready_join p ss vs (a.ready p both.0)
        (ready_agree (λ i. p (length (items {I = I} rs) + i)) (λ i. p (length (items {I = I} ss) + i)) vs (λ i l. let e : length (items {I = I} rs) + i ≡ length (items {I = I} ss) + i = omega (arith, n) in ap p e) (b.ready (λ i. p (length (items {I = I} rs) + i)) both.1));
  }

  -- what was shared has no room
  pub kept_shared : (rs ss : List (List I × ℕ)) → items {I = I} ss ≡ items {I = I} rs → Kept {I = I} (map (λ r. (r.0, 0)) rs) ss
  kept_shared rs ss e = record { items = e ∙ sym (items-shared {I = I} rs); ready = λ p r. let n = none_planned p rs r in let m = ap (λ l. total p (length l)) e in ready_none p ss (omega (arith, n, m)) }

  pub kept_within : (fs rs ss gs : List (List I × ℕ)) → Kept {I = I} rs ss → Kept {I = I} (fs ++ (rs ++ gs)) (fs ++ (ss ++ gs))
  kept_within fs rs ss gs k = kept-append fs fs (rs ++ gs) (ss ++ gs) (kept_refl fs) (kept-append rs ss gs gs k (kept_refl gs))

  pub reserved_leaf : (xs ys : List I) (s t at : ℕ) → ys ≡ xs → at < length xs → s + 1 ≤ t → 0 < s → Reserved {I = I} ((xs, s) ∷ []) ((ys, t) ∷ []) at
  reserved_leaf xs ys s t at e h l o = record {
    ready = λ p r. let n = ap (λ zs. total (one_more p at) (length zs)) e in let m = total_one_more p at (length xs) h in let here = r.0 in (omega (arith, n, m, l, o, here), tt);
  }

  -- what was ready before is so in what is kept, and behind
  pub reserved_after : (rs ss us : List (List I × ℕ)) (at : ℕ) → Kept {I = I} rs ss → Reserved {I = I} ss us at → Reserved {I = I} rs us at
  reserved_after rs ss us at k r = record { ready = λ p h. r.ready p (k.ready p h) }

  pub reserved_within : (fs rs ss gs : List (List I × ℕ)) (index at : ℕ) → index ≡ length (items {I = I} fs) + at → at < length (items {I = I} rs) → items {I = I} ss ≡ items {I = I} rs
      → Reserved {I = I} rs ss at → Reserved {I = I} (fs ++ (rs ++ gs)) (fs ++ (ss ++ gs)) index
  reserved_within fs rs ss gs index at e h s k = record {
    ready = λ p r.
        let f : ℕ = length (items {I = I} fs) in
        let n : ℕ = length (items {I = I} rs) in
        let m : length (items {I = I} ss) ≡ length (items {I = I} rs) = ap length s in
        let one = ready_split p fs (rs ++ gs) r in
        let two = ready_split (λ i. p (f + i)) rs gs one.1 in
        ready_join (one_more p index) fs (ss ++ gs)
        (ready_agree p (one_more p index) fs (λ i l. let z = same_below i index (omega (arith, e, l)) in omega (arith, z)) one.0)
        (ready_join (λ i. one_more p index (f + i)) ss gs
        (ready_agree (one_more (λ i. p (f + i)) at) (λ i. one_more p index (f + i)) ss (λ i l. let z = same_past f i at in let y = ap (same (f + i)) e in omega (arith, z, y)) (k.ready (λ i. p (f + i)) two.0))
        (ready_agree (λ i. p (f + (n + i))) (λ i. one_more p index (f + (length (items {I = I} ss) + i))) gs
        (λ i l. let z = same_above (f + (length (items {I = I} ss) + i)) index (omega (arith, e, h, m)) in let y : f + (n + i) ≡ f + (length (items {I = I} ss) + i) = omega (arith, m) in let x = ap p y in omega (arith, z, x)) two.1));
  }

  -- leaves without items hold no plan
  pub kept_empty : (fs es gs : List (List I × ℕ)) → length (items {I = I} es) ≡ 0 → Kept {I = I} (fs ++ (es ++ gs)) (fs ++ gs)
  kept_empty fs es gs n =
      let none : items {I = I} es ≡ [] = no_items (items {I = I} es) n in
      record {
        items = items-append {I = I} fs gs ∙ ap (λ l. items {I = I} fs ++ (l ++ items {I = I} gs)) (sym none) ∙ sym (items-append {I = I} fs (es ++ gs) ∙ ap (λ l. items {I = I} fs ++ l) (items-append {I = I} es gs));
        ready = λ p r.
            let one = ready_split p fs (es ++ gs) r in
            let two = ready_split (λ i. p (length (items {I = I} fs) + i)) es gs one.1 in
            ready_join p fs gs one.0
            (ready_agree (λ i. p (length (items {I = I} fs) + (length (items {I = I} es) + i))) (λ i. p (length (items {I = I} fs) + i)) gs
            (λ i l. let e : length (items {I = I} fs) + (length (items {I = I} es) + i) ≡ length (items {I = I} fs) + i = omega (arith, n) in ap p e) two.1);
      }
