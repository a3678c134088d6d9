use Rattle.std.specs.FinMap as finite
use Rattle.df_group.proofs.Totals.{one_moved}
use Rattle.df_group.proofs.total.moved_totals.Goals as goal

pub loop-total-preserved : goal.loop-total-preserved
loop-total-preserved c old own lead =
    one_moved c.args.totals.now c.loop-total.moved.items c.deref.result.now _ c.loop-total.total-index c.total-item.result c.in_ok-total.total old (finite.values c.args.rows.now.rows)
    c.loop-total-test.true c.total-item.is own
    (λ is have. c.in_ok-total.ensures old is lead have)
    c.deref.ensures.value (c.loop-total.invariant old own lead) c.in_ok-push.ensures.items
