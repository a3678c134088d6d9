use Rattle.std.proofs.Common.{arith}
use Rattle.df_load_tests.proofs.PairFacts.{first-small, is-pair}
use Rattle.df_load_tests.proofs.pairs.PairsSource.chunk.Goals as goal

pub two_rows-requires : goal.two_rows-requires
two_rows-requires c =
    let source = c.args.self.now in
    let first = c.start-first.ensures in
    omega (arith, first, first-small source.schema source.step source.count c.args.n c.requires source.few source.short)

pub returns-in-Ok : goal.returns-in-Ok
returns-in-Ok c =
    let source = c.args.self.now in
    is-pair source.schema source.step source.count c.args.n c.start-first.result _ c.in-Ok.chunk c.requires c.start-first.ensures c.in_ok-two_rows.ensures c.in-Ok.ensures.made
