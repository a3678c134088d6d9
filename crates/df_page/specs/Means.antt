-- Means as decimals of three places.
use Rattle.std.specs.Prelude.{◌≡◌, ◌≤◌, ◌==◌, ◌++◌, ◌+◌, ◌*◌, ◌/◌, ◌%◌, ◌&&◌, not, ℕ, ℤ, List, [], ◌∷◌, nat_lt, codes, decimal, unsigned_abs, if◌then◌else◌}
use Rattle.std.specs.Int.{is_negative}

-- the whole number nearest to n / d, and of two that are as near the even one
abbrev pub nearest : ℕ → ℕ → ℕ
nearest n d =
    if nat_lt (2 * (n % d)) d then n / d
    else if nat_lt d (2 * (n % d)) then n / d + 1
    else if n / d % 2 == 0 then n / d
    else n / d + 1

-- the thousandths of the absolute value of a sum over a count, rounded
abbrev pub mean_thousandths : ℤ × ℤ → ℕ
mean_thousandths mean = nearest (1000 * unsigned_abs mean.0) (unsigned_abs mean.1)

-- the digits of a number below 1000
abbrev pub three_digits : ℕ → List ℕ
three_digits n = (48 + n / 100) ∷ (48 + n / 10 % 10) ∷ (48 + n % 10) ∷ []

-- a minus before the thousandths of a negative sum, where they are not 0
abbrev pub sign_of : ℤ → ℕ → List ℕ
sign_of sum thousandths = if is_negative sum && not (thousandths == 0) then codes "-" else []

-- so many thousandths, in decimal
abbrev pub thousandths_text : ℕ → List ℕ
thousandths_text n = decimal (n / 1000) ++ (codes "." ++ three_digits (n % 1000))

-- a mean in decimal
abbrev pub mean_decimal : ℤ × ℤ → List ℕ
mean_decimal mean = sign_of mean.0 (mean_thousandths mean) ++ thousandths_text (mean_thousandths mean)

-- what the nearest whole number to n / d is, and of two the even one
pub record IsNearest (n d q : ℕ) : Type 0 where
  pub not_above : 2 * (q * d) ≤ 2 * n + d
  pub not_below : 2 * n ≤ 2 * (q * d) + d
  pub even_above : 2 * (q * d) ≡ 2 * n + d → q % 2 ≡ 0
  pub even_below : 2 * n ≡ 2 * (q * d) + d → q % 2 ≡ 0
