-- Counts of evaluations over the entries of a delta, two rows to an entry.
use Rattle.std.proofs.Common.{ℕ, ◌+◌, ◌*◌, ◌<◌, ◌≤◌, ◌^◌, arith}
use Rattle.std.proofs.Math.Nat.{mul-le-mul_right}
use Rattle.df_expr.specs.declared.meter.Meter.{Meter}
use Rattle.df_delta.specs.Work.{IsWithin, evaluations, plus}

-- after i entries there is room for the next one
pub room : (i n k e0 e : ℕ) → i < n → n < 2 ^ 64 → e0 + 2 ^ 65 * k < 2 ^ 128 → e ≤ e0 + 2 * i * k → e + 2 * k < 2 ^ 128
room i n k e0 e h l below so_far = let most : (2 * i + 2) * k ≤ 2 ^ 65 * k = mul-le-mul_right k (omega arith) in omega arith

-- fewer entries count less
pub fewer : (a b k : ℕ) (m0 m : Meter) → a ≤ b → IsWithin m (plus m0 (evaluations (a * k))) → IsWithin m (plus m0 (evaluations (b * k)))
fewer a b k m0 m le h = let more : a * k ≤ b * k = mul-le-mul_right k le in (omega (arith, h.0, more), h.1, h.2, h.3)
