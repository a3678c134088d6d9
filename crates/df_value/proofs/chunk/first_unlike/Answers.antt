use Rattle.df_value.proofs.Fitting.{all_fit}
use Rattle.df_value.proofs.chunk.first_unlike.Goals as goal

pub returns-clause-none : goal.returns-clause-none
returns-clause-none c = all_fit c.args.schema.now c.args.rows.now c.unlike_at.result c.unlike_at.ensures
