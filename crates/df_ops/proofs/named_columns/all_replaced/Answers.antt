use Rattle.df_ops.specs.NamedColumns.{added_or_own}
use Rattle.std.proofs.Common.{arith, ◌∙◌, map, refl}
use Rattle.df_ops.proofs.Steps.{mapped_more, all_done, made_is}
use Rattle.df_ops.proofs.named_columns.all_replaced.Goals as goal

pub loop-item-preserved : goal.loop-item-preserved
loop-item-preserved g c =
    mapped_more _ _ _ _ _ _ _ (omega arith) c.item-item.is c.loop-item.invariant ((made_is _ _ _ c.copy.ensures c.in_ok-push_made.ensures.1) ∙ c.replacement.ensures) c.in_ok-push_made.ensures.2

pub returns : goal.returns
returns g c =
    all_done (map (added_or_own c.args.added.now)) c.args.own.now _ _ _ c.loop-item-test.false c.loop-item.invariant refl
