use Rattle.df_ops.specs.Tables.{group_row}
use Rattle.std.proofs.Common.{arith, map}
use Rattle.df_ops.proofs.Steps.{mapped_more, all_done, made_is}
use Rattle.df_ops.proofs.grouping.group_rows.Goals as goal

pub loop-key-preserved : goal.loop-key-preserved
loop-key-preserved c = mapped_more _ _ _ _ _ _ _ (omega arith) c.key-item.is c.loop-key.invariant (made_is _ _ _ c.group_row.ensures c.in_ok-push_made.ensures.1) c.in_ok-push_made.ensures.2

pub returns : goal.returns
returns c =
    let table = c.args.table.now in
    all_done (map (group_row table.columns c.args.indices.now c.args.aggs.now table.rows)) c.args.found.now _ _ _
    c.loop-key-test.false c.loop-key.invariant c.from_vec.ensures
