use Rattle.df_ops.specs.NamedColumns.{column_indices}
use Rattle.std.proofs.Common.{arith}
use Rattle.df_ops.proofs.Steps.{mapped_more, all_done}
use Rattle.df_ops.proofs.join_columns.column_indices.Goals as goal

pub loop-name-preserved : goal.loop-name-preserved
loop-name-preserved c = mapped_more _ _ _ _ _ _ _ (omega arith) c.name-item.is c.loop-name.invariant (cc) c.in_ok-push.ensures.items

pub returns : goal.returns
returns c =
    all_done (column_indices c.args.columns.now) c.args.names.now _ _ _ c.loop-name-test.false c.loop-name.invariant c.from_vec.ensures
