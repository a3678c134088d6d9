-- Values under a null mask: their number, one more, and one at an index.
use Rattle.std.proofs.Common.{◌≡◌, ℕ, zero, suc, ◌<◌, ◌≤◌, ◌-◌, Bool, true, false, cond, List, [], ◌∷◌, ◌++◌, length, get_or, take, drop, Option, Some, None, refl, sym, ap, ◌∙◌, arith}
use Rattle.std.specs.Prelude.{replicate}
use Rattle.df_column.specs.Masks.{filled_mask, joined_mask, masked_values}

no_mask : (n : ℕ) → filled_mask [] n ≡ replicate n false
no_mask n = let e : n - 0 ≡ n = omega arith in ap (λ m. replicate m false) e

take-nil : (k : ℕ) → take {A = Bool} k [] ≡ []
take-nil zero = refl
take-nil (suc k) = refl

drop-nil : (k : ℕ) → drop {A = Bool} k [] ≡ []
drop-nil zero = refl
drop-nil (suc k) = refl

module _ {X : Type 0} where
  pub length_masked : (ns : List Bool) (vs : List X) → length (masked_values ns vs) ≡ length vs
  length_masked ns [] = refl
  length_masked [] (v ∷ vs) = ap suc (length_masked [] vs)
  length_masked (n ∷ ns) (v ∷ vs) = ap suc (length_masked ns vs)

  pub masked_push : (ns : List Bool) (vs : List X) (v : X) → length ns ≤ length vs → masked_values ns (vs ++ v ∷ []) ≡ masked_values ns vs ++ Some v ∷ []
  masked_push [] [] v h = refl
  masked_push (n ∷ ns) [] v h = absurd (omega arith)
  masked_push [] (w ∷ vs) v h = ap (λ r. Some w ∷ r) (masked_push [] vs v (omega arith))
  masked_push (n ∷ ns) (w ∷ vs) v h = ap (λ r. cond n None (Some w) ∷ r) (masked_push ns vs v (omega arith))

  filled : (vs : List X) (v : X) → masked_values (replicate (length vs) false ++ true ∷ []) (vs ++ v ∷ []) ≡ masked_values [] vs ++ None ∷ []
  filled [] v = refl
  filled (w ∷ vs) v = ap (λ r. Some w ∷ r) (filled vs v)

  pub masked_null : (ns : List Bool) (vs : List X) (v : X) → length ns ≤ length vs → masked_values (filled_mask ns (length vs) ++ true ∷ []) (vs ++ v ∷ []) ≡ masked_values ns vs ++ None ∷ []
  masked_null [] vs v h = ap (λ m. masked_values (m ++ true ∷ []) (vs ++ v ∷ [])) (no_mask (length vs)) ∙ filled vs v
  masked_null (n ∷ ns) [] v h = absurd (omega arith)
  masked_null (n ∷ ns) (w ∷ vs) v h =
      let e : suc (length vs) - suc (length ns) ≡ length vs - length ns = omega arith in
      ap (λ m. cond n None (Some w) ∷ masked_values ((ns ++ replicate m false) ++ true ∷ []) (vs ++ v ∷ [])) e
      ∙ ap (λ r. cond n None (Some w) ∷ r) (masked_null ns vs v (omega arith))

  pub value_at : (ns : List Bool) (vs : List X) (i : ℕ) (d : Option X) (b : Bool) (x : X) → i < length vs → i < length ns → get_or (masked_values ns vs) i d ≡ cond (get_or ns i b) None (Some (get_or vs i x))
  value_at [] vs i d b x h lt = absurd (omega arith)
  value_at (n ∷ ns) [] i d b x h lt = absurd (omega arith)
  value_at (n ∷ ns) (v ∷ vs) zero d b x h lt = refl
  value_at (n ∷ ns) (v ∷ vs) (suc i) d b x h lt = value_at ns vs i d b x (omega arith) (omega arith)

  pub value_past : (ns : List Bool) (vs : List X) (i : ℕ) (d : Option X) (x : X) → i < length vs → length ns ≤ i → get_or (masked_values ns vs) i d ≡ Some (get_or vs i x)
  value_past ns [] i d x h le = absurd (omega arith)
  value_past [] (v ∷ vs) zero d x h le = refl
  value_past [] (v ∷ vs) (suc i) d x h le = value_past [] vs i d x (omega arith) (omega arith)
  value_past (n ∷ ns) (v ∷ vs) zero d x h le = absurd (omega arith)
  value_past (n ∷ ns) (v ∷ vs) (suc i) d x h le = value_past ns vs i d x (omega arith) (omega arith)

  pub null_at : (ns : List Bool) (vs : List X) (i : ℕ) (d : Option X) → i < length vs → i < length ns → get_or ns i false ≡ true → None ≡ get_or (masked_values ns vs) i d
  null_at [] vs i d h lt e = absurd (omega arith)
  null_at (n ∷ ns) [] i d h lt e = absurd (omega arith)
  null_at (n ∷ ns) (v ∷ vs) zero d h lt e = ap (λ b. cond b None (Some v)) (sym e)
  null_at (n ∷ ns) (v ∷ vs) (suc i) d h lt e = null_at ns vs i d (omega arith) (omega arith) e

  -- values, and more values behind them
  masked_more : (ns : List Bool) (vs ws : List X) → length ns ≤ length vs → masked_values ns (vs ++ ws) ≡ masked_values ns vs ++ masked_values [] ws
  masked_more [] [] ws h = refl
  masked_more (n ∷ ns) [] ws h = absurd (omega arith)
  masked_more [] (v ∷ vs) ws h = ap (λ r. Some v ∷ r) (masked_more [] vs ws (omega arith))
  masked_more (n ∷ ns) (v ∷ vs) ws h = ap (λ r. cond n None (Some v) ∷ r) (masked_more ns vs ws (omega arith))

  filled_more : (vs ws : List X) (ms : List Bool) → masked_values (replicate (length vs) false ++ ms) (vs ++ ws) ≡ masked_values [] vs ++ masked_values ms ws
  filled_more [] ws ms = refl
  filled_more (v ∷ vs) ws ms = ap (λ r. Some v ∷ r) (filled_more vs ws ms)

  masked_filled : (ns : List Bool) (vs ws : List X) (ms : List Bool) → length ns ≤ length vs → masked_values (filled_mask ns (length vs) ++ ms) (vs ++ ws) ≡ masked_values ns vs ++ masked_values ms ws
  masked_filled [] vs ws ms h = ap (λ m. masked_values (m ++ ms) (vs ++ ws)) (no_mask (length vs)) ∙ filled_more vs ws ms
  masked_filled (n ∷ ns) [] ws ms h = absurd (omega arith)
  masked_filled (n ∷ ns) (v ∷ vs) ws ms h =
      let e : suc (length vs) - suc (length ns) ≡ length vs - length ns = omega arith in
      ap (λ m. cond n None (Some v) ∷ masked_values ((ns ++ replicate m false) ++ ms) (vs ++ ws)) e
      ∙ ap (λ r. cond n None (Some v) ∷ r) (masked_filled ns vs ws ms (omega arith))

  pub masked_joined : (ns : List Bool) (vs ws : List X) (ms : List Bool) → length ns ≤ length vs → masked_values (joined_mask ns (length vs) ms) (vs ++ ws) ≡ masked_values ns vs ++ masked_values ms ws
  masked_joined ns vs ws [] h = masked_more ns vs ws h
  masked_joined ns vs ws (m ∷ ms) h = masked_filled ns vs ws (m ∷ ms) h

  -- the values from an index on
  masked_take : (ns : List Bool) (vs : List X) (k : ℕ) → masked_values (take k ns) (take k vs) ≡ take k (masked_values ns vs)
  masked_take ns vs zero = refl
  masked_take ns [] (suc k) = refl
  masked_take [] (v ∷ vs) (suc k) = ap (λ ms. Some v ∷ masked_values ms (take k vs)) (sym (take-nil k)) ∙ ap (λ r. Some v ∷ r) (masked_take [] vs k)
  masked_take (n ∷ ns) (v ∷ vs) (suc k) = ap (λ r. cond n None (Some v) ∷ r) (masked_take ns vs k)

  masked_drop : (ns : List Bool) (vs : List X) (k : ℕ) → masked_values (drop k ns) (drop k vs) ≡ drop k (masked_values ns vs)
  masked_drop ns vs zero = refl
  masked_drop ns [] (suc k) = refl
  masked_drop [] (v ∷ vs) (suc k) = ap (λ ms. masked_values ms (drop k vs)) (sym (drop-nil k)) ∙ masked_drop [] vs k
  masked_drop (n ∷ ns) (v ∷ vs) (suc k) = masked_drop ns vs k

  pub masked_part : (ns : List Bool) (vs : List X) (from count : ℕ) → masked_values (take count (drop from ns)) (take count (drop from vs)) ≡ take count (drop from (masked_values ns vs))
  masked_part ns vs from count = masked_take (drop from ns) (drop from vs) count ∙ ap (take count) (masked_drop ns vs from)
