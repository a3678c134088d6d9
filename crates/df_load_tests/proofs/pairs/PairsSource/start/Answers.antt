use Rattle.std.proofs.Common.{arith}
use Rattle.df_load_tests.proofs.PairFacts.{first-small, index-small}
use Rattle.df_load_tests.proofs.pairs.PairsSource.start.Goals as goal

pub overflow_cast-result : goal.overflow_cast-result
overflow_cast-result c =
    let source = c.args.self.now in
    omega (arith, index-small source.schema source.step source.count c.args.n c.requires source.few)

pub overflow_mul-result : goal.overflow_mul-result
overflow_mul-result c =
    let source = c.args.self.now in
    omega (arith, first-small source.schema source.step source.count c.args.n c.requires source.few source.short)
