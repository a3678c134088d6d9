-- What std's parse of an integer says, in the words of the fields.
use Rattle.std.proofs.Common.{◌≡◌, ◌≢◌, ◌^◌, ◌<◌, ◌≤◌, ℕ, ℤ, pos, neg_ℤ, Bool, true, false, List, [], ◌∷◌, length, Some, None, Result, Ok, Err, refl, arith, rules, inl, inr, eqb}
use Rattle.std.specs.Prelude.{if◌then◌else◌, ◌&&◌, nat_lt, nat_le}
use Rattle.std.specs.Result.{OkIff, result_ok}
use Rattle.std.specs.Str.{all_ascii_digits}
use Rattle.std.specs.Str.Parse.{ParsesSigned}
use Rattle.std.proofs.lemmas.Bool.{cases_Bool}
use Rattle.std.proofs.lemmas.Bool.Decides.{nat_tests}
use Rattle.std.proofs.lemmas.Str.Parse.{IsNumeralModel, numerals_by_fold, parse_signed_minus, parse_signed_plain, parse_signed_plus}
use Rattle.df_csv.specs.Fields.{are_digits, decimal_after, decimal_of, int_of_text}
use mir.Syntax.{w64}

own : IsNumeralModel (λ ds. all_ascii_digits ds ≡ true) (decimal_after 0)
own = numerals_by_fold _ (search rules) decimal_after (search rules)

-- a result that is Ok exactly where a test passes
decided : {E : Type 0} (r : Result ℤ E) (P : Type 0) (b : Bool) (v : ℤ) → OkIff r P v → (P → b ≡ true) → (b ≡ true → P) → result_ok r ≡ (if b then Some v else None)
decided (Ok x) P b v h f g = rw (f h.0, h.1) refl
decided (Err e) P b v h f g = elim (cases_Bool b) [
  | inl is ↦ absurd (h (g is))
  | inr isnt ↦ rw isnt refl
]

below : (ds : List ℕ) (most : ℕ) → (all_ascii_digits ds ≡ true) × (0 < length ds) × (decimal_after 0 ds < most) → (are_digits ds && nat_lt (decimal_of ds) most) ≡ true
below ds most h = grind (arith, nat_tests)

below_back : (ds : List ℕ) (most : ℕ) → (are_digits ds && nat_lt (decimal_of ds) most) ≡ true → (all_ascii_digits ds ≡ true) × (0 < length ds) × (decimal_after 0 ds < most)
below_back ds most h = (grind (arith, nat_tests), grind (arith, nat_tests), grind (arith, nat_tests))

upto : (ds : List ℕ) (most : ℕ) → (all_ascii_digits ds ≡ true) × (0 < length ds) × (decimal_after 0 ds ≤ most) → (are_digits ds && nat_le (decimal_of ds) most) ≡ true
upto ds most h = grind (arith, nat_tests)

upto_back : (ds : List ℕ) (most : ℕ) → (are_digits ds && nat_le (decimal_of ds) most) ≡ true → (all_ascii_digits ds ≡ true) × (0 < length ds) × (decimal_after 0 ds ≤ most)
upto_back ds most h = (grind (arith, nat_tests), grind (arith, nat_tests), grind (arith, nat_tests))

signed : {E : Type 0} (c : ℕ) (cs : List ℕ) (r : Result ℤ E) → ParsesSigned w64 10 (c ∷ cs) r → result_ok r ≡ int_of_text (c ∷ cs)
signed c cs r h = elim (cases_Bool (eqb c 45)) [
  | inl minus ↦
      let fact = parse_signed_minus own w64 (c ∷ cs) r h (grind (arith, nat_tests)) in
      rw minus (decided r _ (are_digits cs && nat_le (decimal_of cs) (2 ^ 63)) (neg_ℤ (pos (decimal_of cs))) fact (upto cs (2 ^ 63)) (upto_back cs (2 ^ 63)))
  | inr other ↦ elim (cases_Bool (eqb c 43)) [
    | inl plus ↦
        let fact = parse_signed_plus own w64 (c ∷ cs) r h (grind (arith, nat_tests)) in
        rw (other, plus) (decided r _ (are_digits cs && nat_lt (decimal_of cs) (2 ^ 63)) (pos (decimal_of cs)) fact (below cs (2 ^ 63)) (below_back cs (2 ^ 63)))
    | inr none ↦
        let fact = parse_signed_plain own w64 (c ∷ cs) r h (ne_at 43 none) (ne_at 45 other) in
        rw (other, none) (decided r _ (are_digits (c ∷ cs) && nat_lt (decimal_of (c ∷ cs)) (2 ^ 63)) (pos (decimal_of (c ∷ cs))) fact (below (c ∷ cs) (2 ^ 63)) (below_back (c ∷ cs) (2 ^ 63)))
  ]
]
  where
    ne_at : (n : ℕ) → eqb c n ≡ false → c ≢ n
    ne_at n e = grind (arith, nat_tests)

pub int_read : {E : Type 0} (bs : List ℕ) (r : Result ℤ E) → ParsesSigned w64 10 bs r → result_ok r ≡ int_of_text bs
int_read {E} [] (Ok x) h = let fact = parse_signed_plain own {E = E} w64 [] (Ok x) h (λ e. cc) (λ e. cc) in absurd (omega (arith, fact.0.1))
int_read [] (Err e) h = refl
int_read (c ∷ cs) r h = signed c cs r h
