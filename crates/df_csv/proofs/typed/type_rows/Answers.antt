use Rattle.std.proofs.Common.{arith}
use Rattle.std.proofs.lemmas.Grind.{common_steps}
use Rattle.df_csv.proofs.RecordFacts.{drop_record}
use Rattle.df_csv.proofs.typed.type_rows.Goals as goal

pub loop-i-preserved : goal.loop-i-preserved
loop-i-preserved c = let one = drop_record c.args.records.now c.args.first c.args.len c.loop-i.i c.loop-i-test.true c.requires.within in grind (arith, common_steps)
