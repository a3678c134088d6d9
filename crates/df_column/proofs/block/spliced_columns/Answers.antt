use Rattle.std.proofs.Common.{◌∙◌, arith}
use Rattle.df_column.proofs.BlockLemmas.{column_step}
use Rattle.df_column.proofs.block.spliced_columns.Goals as goal

pub loop-at-preserved : goal.loop-at-preserved
loop-at-preserved c =
    let made = c.in_ok-column.ensures in
    let step = column_step c.args.low c.args.high c.args.columns.now c.loop-at.out.items c.args.picks.now c.loop-at.at c.in_ok-column.column (omega arith) made.cells made.dtype in
    rw c.in_ok-push.ensures.items (record { cells = step.cells ∙ c.loop-at.invariant.cells; dtypes = step.dtypes ∙ c.loop-at.invariant.dtypes })
