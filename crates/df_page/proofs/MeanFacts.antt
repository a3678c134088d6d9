-- Rounding, with the whole part apart.
use Rattle.std.proofs.Common.{◌≡◌, ◌+◌, ◌*◌, ◌/◌, ◌%◌, ◌<◌, ◌≢◌, ◌==◌, ◌∙◌, ℕ, Bool, true, false, nat_lt, refl, ap, sym, cond, arith}
use Rattle.std.proofs.Math.Nat.{add-mul-div_left, add-mul-mod_self_left, div-add-mod, mod-lt}
use Rattle.std.proofs.lemmas.Bool.Decides.{nat_tests}
use Rattle.df_page.specs.Means.{IsNearest, nearest}

abbrev chosen : Bool → Bool → Bool → ℕ → ℕ
chosen low high even whole = cond low whole (cond high (whole + 1) (cond even whole (whole + 1)))

chosen_above : (low high even : Bool) (above whole : ℕ) → chosen low high even (above + whole) ≡ above + chosen low high even whole
chosen_above true high even above whole = refl
chosen_above false true even above whole = omega arith
chosen_above false false true above whole = refl
chosen_above false false false above whole = omega arith

same_chosen : (low high even odd : Bool) (n m : ℕ) → even ≡ odd → n ≡ m → chosen low high even n ≡ chosen low high odd m
same_chosen low high even odd n m e f = ap (λ b. chosen low high b n) e ∙ ap (chosen low high odd) f

split : (s c : ℕ) → 1000 * s ≡ 1000 * (s % c) + c * (1000 * (s / c))
split s c = omega (arith, div-add-mod s c)

whole_of : (s c : ℕ) → 0 < c → 1000 * s / c ≡ 1000 * (s / c) + 1000 * (s % c) / c
whole_of s c h =
    ap (λ n. n / c) (split s c) ∙ (add-mul-div_left (1000 * (s % c)) (1000 * (s / c)) h ∙ omega arith)

rest_of : (s c : ℕ) → 1000 * s % c ≡ 1000 * (s % c) % c
rest_of s c = ap (λ n. n % c) (split s c) ∙ add-mul-mod_self_left (1000 * (s % c)) c (1000 * (s / c))

parity : (a q : ℕ) → (1000 * a + q) % 2 ≡ q % 2
parity a q = omega arith

-- the thousandths of the whole part are added behind
nearest_whole : (s c : ℕ) → 0 < c → nearest (1000 * s) c ≡ 1000 * (s / c) + nearest (1000 * (s % c)) c
nearest_whole s c h =
    let q = 1000 * (s % c) / c in
    let a = s / c in
    let low = λ (r : ℕ). nat_lt (2 * r) c in
    let high = λ (r : ℕ). nat_lt c (2 * r) in
    let even = ap (λ n. n % 2 == 0) (whole_of s c h) ∙ ap (λ n. n == 0) (parity a q) in
    ap (λ r. chosen (low r) (high r) (1000 * s / c % 2 == 0) (1000 * s / c)) (rest_of s c)
    ∙ (same_chosen _ _ _ _ _ _ even (whole_of s c h) ∙ chosen_above _ _ _ (1000 * a) q)

pub rounded_is : (s c t : ℕ) → 0 < c → t ≡ nearest (1000 * (s % c)) c → 1000 * (s / c + t / 1000) + t % 1000 ≡ nearest (1000 * s) c
rounded_is s c t h e =
    let parts : 1000 * (s / c + t / 1000) + t % 1000 ≡ 1000 * (s / c) + t = omega arith in
    parts ∙ (ap (λ n. 1000 * (s / c) + n) e ∙ sym (nearest_whole s c h))

near : (n d q r : ℕ) (low high even : Bool) → d * q + r ≡ n → r < d → nat_lt (2 * r) d ≡ low → nat_lt d (2 * r) ≡ high → (q % 2 == 0) ≡ even → IsNearest n d (chosen low high even q)
near n d q r true high even e l f g h =
    let low : 2 * r < d = grind (arith, nat_tests) in
    record { not_above = omega arith; not_below = omega arith; even_above = λ k. absurd (omega arith); even_below = λ k. absurd (omega arith) }
near n d q r false true even e l f g h =
    let high : d < 2 * r = grind (arith, nat_tests) in
    record { not_above = omega arith; not_below = omega arith; even_above = λ k. absurd (omega arith); even_below = λ k. absurd (omega arith) }
near n d q r false false true e l f g h =
    let half : 2 * r ≡ d = grind (arith, nat_tests) in
    let same : q % 2 ≡ 0 = grind (arith, nat_tests) in
    record { not_above = omega arith; not_below = omega arith; even_above = λ k. same; even_below = λ k. same }
near n d q r false false false e l f g h =
    let half : 2 * r ≡ d = grind (arith, nat_tests) in
    let odd : q % 2 ≢ 0 = grind (arith, nat_tests) in
    let same : (q + 1) % 2 ≡ 0 = omega arith in
    record { not_above = omega arith; not_below = omega arith; even_above = λ k. same; even_below = λ k. same }

-- what is rounded is nearest, and half is rounded to even
pub nearest_is : (n d : ℕ) → 0 < d → IsNearest n d (nearest n d)
nearest_is n d h = near n d (n / d) (n % d) _ _ _ (div-add-mod n d) (mod-lt n h) refl refl refl
