use Rattle.std.proofs.Common.{ap, nat_lt}
use Rattle.df_frame.specs.Numbers.{are_below}
use Rattle.df_frame.proofs.RangesApart.{earlier-of, some-of}
use Rattle.df_frame.proofs.ranges.Ranges.add_below.Goals as goal

pub add_if_below-requires-clause-some : goal.add_if_below-requires-clause-some
add_if_below-requires-clause-some c =
    some-of c.args.ranges.now c.loop-range.range-index c.range-item.result c.requires.apart c.loop-range-test.true c.range-item.is

pub add_if_below-requires-clause-behind : goal.add_if_below-requires-clause-behind
add_if_below-requires-clause-behind c =
    earlier-of (λ r. nat_lt r.first c.args.first) c.args.ranges.now c.loop-range.range-index c.range-item.result c.args.self.now c.loop-range.self
    c.requires.apart c.loop-range-test.true c.range-item.is c.loop-range.invariant (ap (are_below c.range-item.result.first) c.requires.none)
