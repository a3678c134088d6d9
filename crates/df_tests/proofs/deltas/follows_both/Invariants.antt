use Rattle.std.proofs.Common.{◌^◌}
use Rattle.df_delta.specs.Work.{IsBelow}
use Rattle.df_tests.proofs.deltas.follows_both.Given as goal

abbrev pub invariant-loop-step : goal.invariant-loop-step
invariant-loop-step g l = IsBelow (g.N.TwoSidedNode.budget l.node) (2 ^ 128)
