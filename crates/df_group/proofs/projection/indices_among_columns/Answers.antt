use Rattle.std.proofs.Common.{arith}
use Rattle.df_value.specs.Schemas.{Columns}
use Rattle.df_ops.proofs.Steps.{mapped_more, all_done}
use Rattle.df_group.specs.Projections.{indices_among}
use Rattle.df_group.proofs.projection.indices_among_columns.Goals as goal

pub loop-column-preserved : goal.loop-column-preserved
loop-column-preserved c = mapped_more _ _ _ _ _ _ _ (omega arith) c.column-item.is c.loop-column.invariant (cc) c.in_ok-push.ensures.items

pub returns : goal.returns
returns c =
    all_done (λ (some : Columns). indices_among some c.args.all.now) c.args.some.now _ _ _ c.loop-column-test.false c.loop-column.invariant c.from_vec.ensures
