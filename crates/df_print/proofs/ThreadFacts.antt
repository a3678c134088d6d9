-- The lines of rows that are printed in parts of one size, one part behind the other.
use Rattle.std.proofs.Common.{◌≡◌, ◌∙◌, ◌+◌, ◌*◌, ◌/◌, ◌%◌, ◌<◌, ◌≤◌, ℕ, suc, List, [], ◌∷◌, Result, Ok, ap, arith, drop, flat_map, get_or, length, map, min, refl, subst, sym, take}
use Rattle.std.specs.Prelude.{IfOk}
use Rattle.std.proofs.Math.ListN.{get_or-map}
use Rattle.std.proofs.lemmas.Grind.{div_ceil_times, flat_map-append}
use Rattle.std.proofs.lemmas.List.{drop-drop, length-drop, length-map, take-append-drop}

module _ {X V : Type 0} (items : V → List ℕ) (f : X → List ℕ) (size : ℕ) where
  joined : (parts : List V) (rows : List X) → ((k : ℕ) (d : V) → k < length parts → items (get_or parts k d) ≡ flat_map f (take size (drop (k * size) rows))) →
      length rows ≤ length parts * size → flat_map items parts ≡ flat_map f rows
  joined [] [] each enough = refl
  joined [] (x ∷ rows) each enough = absurd (omega (arith, enough))
  joined (p ∷ parts) rows each enough =
      let none : 0 * size ≡ 0 = omega arith in
      let more : (n : ℕ) → suc n * size ≡ size + n * size = λ n. omega arith in
      let first : items p ≡ flat_map f (take size rows) = each 0 p (omega arith) ∙ ap (λ n. flat_map f (take size (drop n rows))) none in
      let later : (k : ℕ) → drop (suc k * size) rows ≡ drop (k * size) (drop size rows) = λ k. ap (λ n. drop n rows) (more k) ∙ sym (drop-drop (k * size) size rows) in
      let rest : flat_map items parts ≡ flat_map f (drop size rows) =
      joined parts (drop size rows) (λ k d h. each (suc k) d (omega (arith, h)) ∙ ap (λ l. flat_map f (take size l)) (later k))
      (omega (arith, enough, length-drop size rows, more (length parts))) in
      rw (first, rest) (sym (flat_map-append f (take size rows) (drop size rows)) ∙ ap (flat_map f) (take-append-drop size rows))

module _ {X V E : Type 0} (items : V → List ℕ) (f : X → List ℕ) (size : ℕ) (rows : List X) (outcomes : List (Result V E)) (parts : List V) where
  pub parts_whole : 0 < size → length outcomes ≡ length rows / size + min 1 (length rows % size) →
      ((k : ℕ) (d : Result V E) → k < length outcomes → IfOk (get_or outcomes k d) (λ v. items v ≡ flat_map f (take size (drop (k * size) rows)))) →
      outcomes ≡ map (λ v. Ok v) parts → flat_map items parts ≡ flat_map f rows
  parts_whole some count each same =
      let ok : V → Result V E = λ v. Ok v in
      let many : length parts ≡ length outcomes = sym (ap length same ∙ length-map parts ok) in
      let there : (k : ℕ) (d : V) → get_or outcomes k (Ok d) ≡ Ok (get_or parts k d) = λ k d. ap (λ o. get_or o k (Ok d)) same ∙ get_or-map ok parts k d in
      joined items f size parts rows
      (λ k d h. subst (λ (r : Result V E). IfOk r (λ v. items v ≡ flat_map f (take size (drop (k * size) rows)))) (there k d) (each k (Ok d) (omega (arith, h, many))))
      (rw (many, count) (div_ceil_times (length rows) size some).0)
