use Rattle.df_plan.proofs.Sound.{table_columns, table_fits}
use Rattle.df_plan.proofs.evaluation.evaluate.Goals as goal

pub returns-clause-fit : goal.returns-clause-fit
returns-clause-fit c fits =
    let plan = c.args.plan.now in
    rw (c.in_ok-table.ensures, c.plan.ensures.value, c.as_slice.ensures, c.frames.ensures.value)
    (table_fits plan.frames c.args.frames.now fits plan.plan plan.schema c.plan.ensures.sound)

pub returns-clause-columns : goal.returns-clause-columns
returns-clause-columns c fits =
    let plan = c.args.plan.now in
    table_columns plan.frames c.args.frames.now fits plan.plan plan.schema c.plan.ensures.sound
