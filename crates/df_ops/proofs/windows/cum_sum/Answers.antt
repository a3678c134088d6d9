use Rattle.std.proofs.Common.{◌∙◌}
use Rattle.std.proofs.lemmas.Result.{IfOk-weaker}
use Rattle.df_ops.specs.Aggregates.{cells_of}
use Rattle.df_ops.proofs.WindowFacts.{running_is}
use Rattle.df_ops.proofs.WindowLaws.{ends_in_sum, sums_up_to}
use Rattle.df_ops.proofs.windows.cum_sum.Goals as goal

pub returns-clause-last : goal.returns-clause-last
returns-clause-last c =
    let cells = cells_of c.args.index c.args.rows.now in
    IfOk-weaker c.cum_sum_cells.result _ _ (λ sums e. ends_in_sum cells sums.items (e ∙ running_is cells)) c.cum_sum_cells.ensures

pub returns-clause-each : goal.returns-clause-each
returns-clause-each c =
    let cells = cells_of c.args.index c.args.rows.now in
    IfOk-weaker c.cum_sum_cells.result _ _ (λ sums e. sums_up_to cells sums.items (e ∙ running_is cells)) c.cum_sum_cells.ensures
