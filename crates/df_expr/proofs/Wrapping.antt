-- What is left of a whole number at 64 bits is the 64-bit integer that equals it modulo 2^64.
use Rattle.std.proofs.Common.{◌≡◌, ℕ, suc, ◌+◌, ◌-◌, ◌*◌, ◌<◌, ◌/◌, ◌%◌, Bool, true, false, arith}
use Rattle.std.specs.Prelude.{ℤ, pos, negsuc, ◌+ℤ◌, nat_lt}
use Rattle.std.specs.Int.{w64, int_wrap, cast_signed}
use Rattle.std.proofs.lemmas.Int.{SFits-int_wrap, ints}
use Rattle.std.proofs.lemmas.Nat.{div-add-mod'}
use Rattle.std.proofs.Math.Nat.{mod-lt}
use mir.Val.{sel}
use Rattle.df_expr.specs.Arithmetic.{IsWrapped, wrapped_i64}

-- 64 bits, read as unsigned, lie above those read as signed by no or one time 2^64
abbrev Above : ℕ → ℤ → Type 0
Above n v = (j : ℕ) × (v +ℤ pos (j * 18446744073709551616) ≡ pos n)

read_at : (n : ℕ) (b : Bool) → n < 18446744073709551616 → Above n (sel b (pos n) (negsuc (18446744073709551616 - suc n)))
read_at n true h = (0, omega (arith, ints))
read_at n false h = (1, omega (arith, ints))

signed : (n : ℕ) → n < 18446744073709551616 → Above n (cast_signed w64 n)
signed n h = read_at n (nat_lt n 9223372036854775808) h

equal_modulo : (z : ℤ) → (j : ℕ) × (k : ℕ) × (int_wrap w64 z +ℤ pos (j * 18446744073709551616) ≡ z +ℤ pos (k * 18446744073709551616))
unfolding int_wrap
equal_modulo (pos a) =
    let small : a % 18446744073709551616 < 18446744073709551616 = mod-lt a (omega arith) in
    let r = signed (a % 18446744073709551616) small in
    let whole = div-add-mod' a 18446744073709551616 in
    (r.0 + a / 18446744073709551616, 0, omega (arith, ints, r.1, whole))
equal_modulo (negsuc a) =
    let small : a % 18446744073709551616 < 18446744073709551616 = mod-lt a (omega arith) in
    let r = signed (18446744073709551616 - 1 - a % 18446744073709551616) (omega arith) in
    let whole = div-add-mod' a 18446744073709551616 in
    (r.0, a / 18446744073709551616 + 1, omega (arith, ints, r.1, whole))

pub wrapped_is : (z : ℤ) → IsWrapped z (wrapped_i64 z)
wrapped_is z =
    let e = equal_modulo z in
    let fits = SFits-int_wrap w64 z in
    record { least = omega (arith, ints, fits.sfits); most = omega (arith, ints, fits.sfits); times = e.0; times_of_z = e.1; equal = e.2 }
