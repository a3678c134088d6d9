-- Arithmetic on 64-bit integers, as the Polars Python reference has it for Int64: what does not fit is wrapped.
use Rattle.std.specs.Prelude.{◌≡◌, ◌*◌, ◌^◌, ℕ, ℤ, pos, ◌+ℤ◌, ◌-ℤ◌, ◌*ℤ◌, ◌≤ℤ◌, ◌<ℤ◌}
use Rattle.std.specs.Int.{w64, int_wrap}
use Rattle.df_expr.specs.declared.expr.ArithOp.{ArithOp}
use Rattle.df_expr.specs.declared.expr.ArithOp.TheVariants as arith

-- the whole-number result
abbrev pub unbounded_result : ArithOp → ℤ → ℤ → ℤ
unbounded_result arith.Add a b = a +ℤ b
unbounded_result arith.Sub a b = a -ℤ b
unbounded_result arith.Mul a b = a *ℤ b

-- a whole number wrapped at 64 bits; a clause of `ArithOp::apply` says that it is as `IsWrapped` says
abbrev pub wrapped_i64 : ℤ → ℤ
wrapped_i64 z = int_wrap w64 z

-- n is the 64-bit integer that equals z modulo 2^64: with some multiple of 2^64 added to each, the two are the same
pub record IsWrapped (z n : ℤ) : Type 0 where
  pub least : pos 0 ≤ℤ (n +ℤ pos (2 ^ 63))
  pub most : n <ℤ pos (2 ^ 63)
  pub times : ℕ
  pub times_of_z : ℕ
  pub equal : n +ℤ pos (times * 2 ^ 64) ≡ z +ℤ pos (times_of_z * 2 ^ 64)
