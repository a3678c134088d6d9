use Rattle.std.proofs.Common.{◌∙◌, ap}
use Rattle.df_ops.specs.RowWise.{is_true, keeps}
use Rattle.df_ops.proofs.row_wise.keeps.Goals as goal

pub returns-clause-value : goal.returns-clause-value
unfolding keeps
returns-clause-value c columns of is = c.is_true.ensures ∙ ap is_true (c.eval.ensures.value ∙ is c.args.row.now)
