use Rattle.std.proofs.Common.{arith}
use Rattle.std.proofs.lemmas.Grind.{common_steps}
use Rattle.df_writing.specs.ExpressionData.{output_data}
use Rattle.df_writing.proofs.TextFacts.{later_items-map}
use Rattle.df_writing.proofs.expressions.push_outputs.Goals as goal

pub returns : goal.returns
returns c = grind (arith, common_steps, later_items-map output_data c.args.outputs.now)
