-- Texts that are looked up by their hashes, in a set whose keys are the texts of a pool.
use Rattle.std.proofs.Common.{◌≡◌, ℕ, zero, suc, ◌+◌, ◌<◌, Bool, true, false, not, cond, List, [], ◌∷◌, ◌++◌, length, map, take, get_or, Option, Some, None, refl, sym, ap, ◌∙◌, arith}
use Rattle.std.specs.Prelude.{◌==◌, ◌||◌}
use Rattle.std.specs.Borrow.{Bor}
use Rattle.std.specs.List.{list_any, position_or_len}
use Rattle.std.specs.Option.{is_some, option_map}
use Rattle.std.specs.Cmp.Lexicographic.{pointwise, nat_list_eq_equiv}
use Rattle.df_column.specs.Pools.{place_of, place_or_end, with_text}

module _ (eq : Bor (List ℕ) → Bor (List ℕ) → Bool) (is : (a b : Bor (List ℕ)) → eq a b ≡ pointwise ◌==◌ a.now b.now) where
  turned : (t k : Bor (List ℕ)) → eq t k ≡ pointwise ◌==◌ k.now t.now
  turned t k = is t k ∙ nat_list_eq_equiv.symm t.now k.now

  pub known_place : (t : Bor (List ℕ)) (keys : List (Bor (List ℕ))) → position_or_len (eq t) keys ≡ place_or_end (place_of t.now (map (λ t. t.now) keys)) (map (λ t. t.now) keys)
  known_place t [] = refl
  known_place t (k ∷ keys) =
      ap (λ b. cond (not b) (1 + position_or_len (eq t) keys) 0) (turned t k)
      ∙ step (pointwise ◌==◌ k.now t.now) (place_of t.now (map (λ t. t.now) keys)) (known_place t keys)
    where
      step : (b : Bool) (o : Option ℕ) → position_or_len (eq t) keys ≡ place_or_end o (map (λ t. t.now) keys)
          → cond (not b) (1 + position_or_len (eq t) keys) 0 ≡ place_or_end (cond b (Some 0) (option_map (λ n. n + 1) o)) (k.now ∷ map (λ t. t.now) keys)
      step true o h = refl
      step false None h = omega (arith, h)
      step false (Some n) h = omega (arith, h)

  any_known : (t : Bor (List ℕ)) (keys : List (Bor (List ℕ))) → list_any (eq t) keys ≡ is_some (place_of t.now (map (λ t. t.now) keys))
  any_known t [] = refl
  any_known t (k ∷ keys) =
      ap (λ b. b || list_any (eq t) keys) (turned t k)
      ∙ ap (λ r. pointwise ◌==◌ k.now t.now || r) (any_known t keys)
      ∙ step (pointwise ◌==◌ k.now t.now) (place_of t.now (map (λ t. t.now) keys))
    where
      step : (b : Bool) (o : Option ℕ) → (b || is_some o) ≡ is_some (cond b (Some 0) (option_map (λ n. n + 1) o))
      step true o = refl
      step false None = refl
      step false (Some n) = refl

  no_place : (o : Option ℕ) → is_some o ≡ false → o ≡ None
  no_place None e = refl
  no_place (Some n) e = absurd (cc e)

  some_text : (o : Option ℕ) (texts : List (List ℕ)) (t : List ℕ) → is_some o ≡ true → with_text o texts t ≡ texts
  some_text None texts t e = absurd (cc e)
  some_text (Some n) texts t e = refl

  pub known_new : (t : Bor (List ℕ)) (keys : List (Bor (List ℕ))) (texts : List (List ℕ)) → map (λ t. t.now) keys ≡ texts → list_any (eq t) keys ≡ false → place_of t.now texts ≡ None
  known_new t keys texts same e = ap (place_of t.now) (sym same) ∙ no_place _ (sym (any_known t keys) ∙ e)

  pub known_there : (t : Bor (List ℕ)) (keys : List (Bor (List ℕ))) (texts : List (List ℕ)) → map (λ t. t.now) keys ≡ texts → list_any (eq t) keys ≡ true → texts ≡ with_text (place_of t.now texts) texts t.now
  known_there t keys texts same e = sym (some_text (place_of t.now texts) texts t.now (ap (λ us. is_some (place_of t.now us)) (sym same) ∙ sym (any_known t keys) ∙ e))

pub not_true : (b c : Bool) → c ≡ not b → c ≡ true → b ≡ false
not_true true c e f = absurd (cc (e, f))
not_true false c e f = refl

pub not_false : (b c : Bool) → c ≡ not b → c ≡ false → b ≡ true
not_false true c e f = refl
not_false false c e f = absurd (cc (e, f))

-- one item more of those that are taken
pub take_next : {X : Type 0} (xs : List X) (n : ℕ) (d : X) → n < length xs → take (n + 1) xs ≡ take n xs ++ get_or xs n d ∷ []
take_next [] n d h = absurd (omega arith)
take_next (x ∷ xs) zero d h = refl
take_next (x ∷ xs) (suc n) d h =
    let e : suc n + 1 ≡ suc (n + 1) = omega arith in
    ap (λ m. take m (x ∷ xs)) e ∙ ap (λ ys. x ∷ ys) (take_next xs n d (omega arith))
