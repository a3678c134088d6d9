-- How a rise changes a count, modulo 2^64.
use Rattle.std.proofs.Common.{◌≡◌, ℕ, ◌+◌, ◌%◌, ◌^◌, ◌<◌, arith}

-- what there is afterwards, from what there was, what went, what came and a rise that says the difference
pub wrapped : (b n g c r : ℕ) → n + g ≡ b + c → (r + g) % 2 ^ 64 ≡ c % 2 ^ 64 → n < 2 ^ 64 → (b + r) % 2 ^ 64 ≡ n
wrapped b n g c r e h lt = omega arith

-- one row more that goes, and one that comes
pub one_gone : (r g c : ℕ) → (r + g) % 2 ^ 64 ≡ c % 2 ^ 64 → ((r + 18446744073709551615) % 2 ^ 64 + (g + 1)) % 2 ^ 64 ≡ c % 2 ^ 64
one_gone r g c h = omega arith

pub one_come : (r g c : ℕ) → (r + g) % 2 ^ 64 ≡ c % 2 ^ 64 → ((r + 1) % 2 ^ 64 + g) % 2 ^ 64 ≡ (c + 1) % 2 ^ 64
one_come r g c h = omega arith
