-- Counts of windows.
use Rattle.std.proofs.Common.{ℕ, ◌+◌, ◌*◌, ◌<◌, ◌≤◌, ◌^◌, arith}
use Rattle.std.proofs.Math.Nat.{mul-le-mul_right}
use Rattle.df_expr.specs.declared.meter.Meter.{Meter}
use Rattle.df_delta.specs.Work.{IsWithin, plus}
use Rattle.df_nodes.specs.Rolling.{windows}

pub grown : (a b c : Meter) → IsWithin a b → IsWithin b c → IsWithin a c
grown a b c h g = (omega (arith, h.0, g.0), omega (arith, h.1, g.1), omega (arith, h.2, g.2), omega (arith, h.3, g.3))

-- some windows and then more
pub counted_more : (m0 m new : Meter) (i j n : ℕ) → IsWithin m (plus m0 (windows i)) → IsWithin new (plus m (windows j)) → i + j ≤ n → IsWithin new (plus m0 (windows n))
counted_more m0 m new i j n h g le = (omega (arith, h.0, g.0), omega (arith, h.1, g.1), omega (arith, h.2, g.2), omega (arith, h.3, g.3))

pub counted_less : (m0 m : Meter) (i n : ℕ) → IsWithin m (plus m0 (windows i)) → i ≤ n → IsWithin m (plus m0 (windows n))
counted_less m0 m i n h le = (h.0, h.1, h.2, omega (arith, h.3))

-- there is room for the next change, and what all of them may count
pub room : (i n k w0 w : ℕ) → i < n → n < 2 ^ 64 → w0 + 2 ^ 64 * k < 2 ^ 128 → w ≤ w0 + i * k → w + k < 2 ^ 128
room i n k w0 w h l below so_far = let most : (i + 1) * k ≤ 2 ^ 64 * k = mul-le-mul_right k (omega arith) in omega arith

pub next_change : (m0 m new : Meter) (i k : ℕ) → IsWithin m (plus m0 (windows (i * k))) → IsWithin new (plus m (windows k)) → IsWithin new (plus m0 (windows ((i + 1) * k)))
next_change m0 m new i k h g = counted_more m0 m new (i * k) k ((i + 1) * k) h g (omega arith)

pub fewer : (i n k : ℕ) (m0 m : Meter) → i ≤ n → IsWithin m (plus m0 (windows (i * k))) → IsWithin m (plus m0 (windows (n * k)))
fewer i n k m0 m le h = counted_less m0 m (i * k) (n * k) h (mul-le-mul_right k le)
