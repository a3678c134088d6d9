use Rattle.std.proofs.Common.{◌∙◌}
use Rattle.df_csv.proofs.FieldFacts.{int_read}
use Rattle.df_csv.proofs.fields.int_of.Goals as goal

pub returns : goal.returns
returns c = c.ok.ensures.value ∙ int_read c.args.text.now c.parse.result c.parse.ensures.value.0
