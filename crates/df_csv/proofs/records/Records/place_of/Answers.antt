use Rattle.std.proofs.Common.{arith, ◌<◌, ◌≤◌, length}
use Rattle.df_csv.proofs.PartFacts.{stands_behind, stands_here}
use Rattle.df_csv.proofs.records.Records.place_of.Goals as goal

pub returns-then-place-len-clause-same : goal.returns-then-place-len-clause-same
returns-then-place-len-clause-same c =
    let within : c.loop-part.place < length c.part-item.result = omega (arith, c.if-place-len.true, c.len.ensures) in
    stands_here c.args.self.now c.args.row c.deref-part-items.result.now c.loop-part.part-index c.loop-part.place c.part-item.result c.loop-part.invariant
    c.loop-part-test.true c.part-item.is within

pub loop-part-preserved : goal.loop-part-preserved
loop-part-preserved c =
    let behind : length c.part-item.result ≤ c.loop-part.place = omega (arith, c.if-place-len.false, c.len.ensures) in
    rw c.len-place.ensures
    (stands_behind c.args.self.now c.args.row c.deref-part-items.result.now c.loop-part.part-index c.loop-part.place c.part-item.result c.loop-part.invariant
    c.loop-part-test.true c.part-item.is behind)
