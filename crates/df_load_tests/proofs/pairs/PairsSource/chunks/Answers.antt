use Rattle.std.proofs.Common.{◌∙◌, sym}
use Rattle.df_load_tests.specs.Pairs.{pairs-long}
use Rattle.df_load_tests.proofs.pairs.PairsSource.chunks.Goals as goal

pub returns : goal.returns
returns c = let source = c.args.self.now in c.from.ensures ∙ sym (pairs-long source.schema source.step source.count)
