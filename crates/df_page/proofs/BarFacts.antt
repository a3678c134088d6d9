-- How wide bars are.
use Rattle.std.proofs.Common.{◌≡◌, ◌<◌, ◌≤◌, ◌*◌, ◌/◌, ◌^◌, ◌∙◌, ℕ, inl, inr, min, max, nat_lt, ap, arith}
use Rattle.std.proofs.lemmas.Bool.{cases_Bool}
use Rattle.std.proofs.lemmas.Bool.Decides.{nat_tests}
use Rattle.std.proofs.Math.Nat.{div-le_of_le-mul, mul-div_left}
use Rattle.df_page.specs.Bars.{bar_width, thousandths}

thousandths_most : (part whole : ℕ) → part ≤ whole → thousandths part whole ≤ 1000
thousandths_most part whole h = div-le_of_le-mul (max 1 whole) {m = 1000 * part} {n = 1000} (omega arith)

thousandths_whole : (whole : ℕ) → 0 < whole → thousandths whole whole ≡ 1000
thousandths_whole whole h =
    let most : max 1 whole ≡ whole = omega arith in
    ap (λ n. 1000 * whole / n) most ∙ mul-div_left 1000 h

-- no bar is wider than the widest
pub width_most : (size greatest : ℕ) → bar_width size greatest ≤ 1000
width_most size greatest = elim (cases_Bool (nat_lt greatest (2 ^ 118))) [
  | inl small ↦ rw small (thousandths_most (min size greatest) greatest (omega arith))
  | inr large ↦ rw large (thousandths_most (min size greatest / 1024) (greatest / 1024) (omega arith))
]

-- that of a greatest one is as wide as that
pub width_whole : (greatest : ℕ) → 0 < greatest → bar_width greatest greatest ≡ 1000
width_whole greatest h =
    let same : min greatest greatest ≡ greatest = omega arith in
    elim (cases_Bool (nat_lt greatest (2 ^ 118))) [
      | inl small ↦ rw (small, same) (thousandths_whole greatest h)
      | inr large ↦
          let above : 2 ^ 118 ≤ greatest = grind (arith, nat_tests) in
          rw (large, same) (thousandths_whole (greatest / 1024) (omega arith))
    ]
