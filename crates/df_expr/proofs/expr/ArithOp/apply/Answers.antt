use Rattle.std.specs.Int.{w64}
use Rattle.std.specs.Prelude.{◌+ℤ◌, ◌-ℤ◌, ◌*ℤ◌}
use Rattle.std.proofs.lemmas.Int.{wrapping_add_is, wrapping_sub_is, wrapping_mul_is}
use Rattle.df_expr.proofs.Wrapping.{wrapped_is}
use Rattle.df_expr.proofs.expr.ArithOp.apply.Goals as goal

pub returns-in-Add-clause-value : goal.returns-in-Add-clause-value
returns-in-Add-clause-value c = rw c.in-Add.is (wrapping_add_is w64 c.args.a c.args.b c.ranges.a c.ranges.b)

pub returns-in-Add-clause-modulo : goal.returns-in-Add-clause-modulo
returns-in-Add-clause-modulo c =
    rw (c.in-Add.is, wrapping_add_is w64 c.args.a c.args.b c.ranges.a c.ranges.b) (wrapped_is (c.args.a +ℤ c.args.b))

pub returns-in-Sub-clause-value : goal.returns-in-Sub-clause-value
returns-in-Sub-clause-value c = rw c.in-Sub.is (wrapping_sub_is w64 c.args.a c.args.b c.ranges.a c.ranges.b)

pub returns-in-Sub-clause-modulo : goal.returns-in-Sub-clause-modulo
returns-in-Sub-clause-modulo c =
    rw (c.in-Sub.is, wrapping_sub_is w64 c.args.a c.args.b c.ranges.a c.ranges.b) (wrapped_is (c.args.a -ℤ c.args.b))

pub returns-in-Mul-clause-modulo : goal.returns-in-Mul-clause-modulo
returns-in-Mul-clause-modulo c =
    rw (c.in-Mul.is, wrapping_mul_is w64 c.args.a c.args.b c.ranges.a c.ranges.b) (wrapped_is (c.args.a *ℤ c.args.b))
