-- Where a text stands in a pool, and a pool that has grown by a text.
use Rattle.std.proofs.Common.{◌≡◌, ℕ, zero, suc, ◌+◌, ◌<◌, ◌≤◌, Bool, true, false, cond, nat_lt, List, [], ◌∷◌, ◌++◌, length, get_or, Option, Some, None, refl, sym, ap, subst, ◌∙◌, arith}
use Rattle.std.proofs.lemmas.Bool.{ltb-true, lt-ltb, eqb-true}
use Rattle.std.specs.Prelude.{T, ◌&&◌, ◌==◌}
use Rattle.std.specs.Option.{option_map}
use Rattle.std.specs.Cmp.Lexicographic.{pointwise}
use Rattle.df_column.specs.Pools.{place_of, with_text, place_or_end}

pub get_before : (ts : List (List ℕ)) (t : List ℕ) (p : ℕ) → p < length ts → get_or (ts ++ t ∷ []) p [] ≡ get_or ts p []
get_before [] t p h = absurd (omega arith)
get_before (u ∷ ts) t zero h = refl
get_before (u ∷ ts) t (suc p) h = get_before ts t p (omega arith)

pub get_last : (ts : List (List ℕ)) (t : List ℕ) → get_or (ts ++ t ∷ []) (length ts) [] ≡ t
get_last [] t = refl
get_last (u ∷ ts) t = get_last ts t

pub lt_from : (p n : ℕ) → T (nat_lt p n) → p < n
lt_from p n h = ltb-true p n (is_true (nat_lt p n) h) where
  is_true : (b : Bool) → T b → b ≡ true
  is_true true h = refl
  is_true false h = absurd h

pub lt_to : (p n : ℕ) → p < n → T (nat_lt p n)
lt_to p n h = subst T (sym (lt-ltb p n h)) tt

both_true : (a b : Bool) → (a && b) ≡ true → (a ≡ true) × (b ≡ true)
both_true true b e = (refl, e)
both_true false b e = absurd (cc e)

same_text : (u t : List ℕ) → pointwise ◌==◌ u t ≡ true → u ≡ t
same_text [] [] e = refl
same_text [] (y ∷ t) e = absurd (cc e)
same_text (x ∷ u) [] e = absurd (cc e)
same_text (x ∷ u) (y ∷ t) e =
    let p = both_true (x == y) (pointwise ◌==◌ u t) e in
    let q = eqb-true x y p.0 in
    let r = same_text u t p.1 in
    λ i. q i ∷ r i

pub record IsThere (ts : List (List ℕ)) (t : List ℕ) (n : ℕ) : Type 0 where
  pub within : n < length ts
  pub here : get_or ts n [] ≡ t

there_more : (u : List ℕ) (ts : List (List ℕ)) (t : List ℕ) (n : ℕ) → IsThere ts t n → IsThere (u ∷ ts) t (n + 1)
there_more u ts t n h =
    let e : n + 1 ≡ suc n = omega arith in
    record { within = omega (arith, h.within); here = ap (λ n. get_or (u ∷ ts) n []) e ∙ h.here }

pub found : (ts : List (List ℕ)) (t : List ℕ) (n : ℕ) → place_of t ts ≡ Some n → IsThere ts t n
found [] t n e = absurd (cc e)
found (u ∷ ts) t n e = step (found ts t) (pointwise ◌==◌ u t) (place_of t ts) refl refl e where
  step : ((m : ℕ) → place_of t ts ≡ Some m → IsThere ts t m) → (b : Bool) (o : Option ℕ) → pointwise ◌==◌ u t ≡ b → place_of t ts ≡ o → cond b (Some 0) (option_map (λ n. n + 1) o) ≡ Some n → IsThere (u ∷ ts) t n
  step known true o p q e =
      let z : 0 ≡ n = cc e in
      subst (IsThere (u ∷ ts) t) z (record { within = omega arith; here = same_text u t p })
  step known false None p q e = absurd (cc e)
  step known false (Some m) p q e =
      let z : m + 1 ≡ n = cc e in
      subst (IsThere (u ∷ ts) t) z (there_more u ts t m (known m q))

pub length_push : (ts : List (List ℕ)) (t : List ℕ) → length (ts ++ t ∷ []) ≡ length ts + 1
length_push [] t = refl
length_push (u ∷ ts) t = let e = length_push ts t in omega (arith, e)

pub put_there : (ts : List (List ℕ)) (t : List ℕ) → IsThere (with_text (place_of t ts) ts t) t (place_or_end (place_of t ts) ts)
put_there ts t = step (place_of t ts) refl where
  step : (o : Option ℕ) → place_of t ts ≡ o → IsThere (with_text o ts t) t (place_or_end o ts)
  step None e = let l = length_push ts t in record { within = omega (arith, l); here = get_last ts t }
  step (Some n) e = found ts t n e

pub record IsGrown (ts us : List (List ℕ)) : Type 0 where
  pub more : length ts ≤ length us
  pub one : length us ≤ length ts + 1
  pub same : (p : ℕ) → p < length ts → get_or us p [] ≡ get_or ts p []

pub put_grown : (ts : List (List ℕ)) (t : List ℕ) → IsGrown ts (with_text (place_of t ts) ts t)
put_grown ts t = step (place_of t ts) where
  step : (o : Option ℕ) → IsGrown ts (with_text o ts t)
  step None = let l = length_push ts t in record { more = omega (arith, l); one = omega (arith, l); same = get_before ts t }
  step (Some n) = record { more = omega arith; one = omega arith; same = λ p h. refl }
