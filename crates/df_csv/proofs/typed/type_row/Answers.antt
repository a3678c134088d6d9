use Rattle.std.proofs.Common.{arith}
use Rattle.std.proofs.lemmas.Grind.{common_steps}
use Rattle.df_csv.specs.Records.{record_at}
use Rattle.df_csv.proofs.RecordFacts.{drop_field}
use Rattle.df_csv.proofs.typed.type_row.Goals as goal

pub returns-in_default : goal.returns-in_default
returns-in_default c = let field = drop_field (record_at c.args.records.now c.args.row) c.loop-i.i c.field.result.now c.field.ensures in grind (arith, common_steps)

pub loop-i-preserved : goal.loop-i-preserved
loop-i-preserved c = let field = drop_field (record_at c.args.records.now c.args.row) c.loop-i.i c.field.result.now c.field.ensures in grind (arith, common_steps)
