use Rattle.df_expr.proofs.Sound.{value_fits}
use Rattle.df_expr.proofs.evaluation.eval.Goals as goal

pub returns-clause-typed : goal.returns-clause-typed
returns-clause-typed c = λ fits. value_fits c.args.schema.now c.args.row.now fits c.args.expr.now

pub returns-clause-free : goal.returns-clause-free
returns-clause-free c h = c.to_cell.ensures.free (rw (c.value_in.ensures, c.as_slice.ensures, c.columns.ensures.value) h)
