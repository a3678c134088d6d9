use Rattle.std.proofs.Common.{◌∙◌}
use Rattle.df_state.specs.Pictures.{rows_in}
use Rattle.df_state.proofs.Loops.{mapped-more}
use Rattle.df_state.proofs.picture.rows_of_tables.Goals as goal

pub loop-table-preserved : goal.loop-table-preserved
loop-table-preserved c =
    mapped-more c.args.tables.now c.loop-table.table-index c.table-item.result rows_in _ _ _ c.loop-table-test.true c.table-item.is c.loop-table.invariant c.in_ok-push.ensures.items
    (c.from_vec.ensures ∙ c.in_ok-rows-2.ensures)
