use Rattle.df_ops.specs.Tables.{key_column, aggregate_column}
use Rattle.std.proofs.Common.{arith, ◌++◌, map}
use Rattle.df_ops.proofs.Steps.{mapped_behind, mapped_more, paired, all_done}
use Rattle.df_ops.proofs.grouping.group_by_columns.Goals as goal

pub loop-name-preserved : goal.loop-name-preserved
loop-name-preserved c =
    mapped_more _ _ _ _ _ _ _ (omega arith) c.name-item.is c.loop-name.invariant (paired c.in_ok-copy.ensures c.dtype_at.ensures) c.in_ok-push.ensures.items

pub loop-agg-preserved : goal.loop-agg-preserved
loop-agg-preserved c =
    mapped_behind _ _ _ _ _ _ _ _ (omega arith) c.agg-item.is c.loop-agg.invariant (paired c.in_ok-copy-2.ensures c.aggregate_dtype.ensures)
    c.in_ok-push-2.ensures.items

pub returns : goal.returns
returns c =
    let columns = c.args.columns.now in
    all_done (λ aggs. map (key_column columns) c.args.keys.now ++ map (aggregate_column columns) aggs) c.args.aggs.now _ _ _
    c.loop-agg-test.false c.loop-agg.invariant c.from_vec.ensures
