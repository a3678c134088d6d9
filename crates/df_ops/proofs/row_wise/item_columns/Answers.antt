use Rattle.df_ops.specs.RowWise.{item_column}
use Rattle.std.proofs.Common.{arith, map}
use Rattle.df_ops.proofs.Steps.{mapped_more, paired, all_done}
use Rattle.df_ops.proofs.row_wise.item_columns.Goals as goal

pub loop-item-preserved : goal.loop-item-preserved
loop-item-preserved c = mapped_more _ _ _ _ _ _ _ (omega arith) c.item-item.is c.loop-item.invariant (paired c.in_ok-copy.ensures c.expr_dtype.ensures) c.in_ok-push.ensures.items

pub returns : goal.returns
returns c =
    all_done (map (item_column c.args.columns.now)) c.args.items.now _ _ _ c.loop-item-test.false c.loop-item.invariant c.from_vec.ensures
