use Rattle.std.specs.Prelude.{nat_le}
use Rattle.df_frame.proofs.RangesApart.{below-of, earlier-of, some-of}
use Rattle.df_frame.proofs.ranges.Ranges.add_from.Goals as goal

pub add_if_from-requires-clause-some : goal.add_if_from-requires-clause-some
add_if_from-requires-clause-some c =
    some-of c.args.ranges.now c.loop-range.range-index c.range-item.result c.requires.apart c.loop-range-test.true c.range-item.is

pub add_if_from-requires-clause-behind : goal.add_if_from-requires-clause-behind
add_if_from-requires-clause-behind c = λ le.
    earlier-of (λ r. nat_le c.args.first r.first) c.args.ranges.now c.loop-range.range-index c.range-item.result c.args.self.now c.loop-range.self
    c.requires.apart c.loop-range-test.true c.range-item.is c.loop-range.invariant
    (below-of c.args.first c.args.ranges.now c.args.self.now c.loop-range.range-index c.range-item.result c.requires.behind c.loop-range-test.true c.range-item.is le)
