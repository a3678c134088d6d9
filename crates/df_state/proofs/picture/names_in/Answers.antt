use Rattle.df_state.proofs.Loops.{mapped-more}
use Rattle.df_state.proofs.picture.names_in.Goals as goal

pub loop-view-preserved : goal.loop-view-preserved
loop-view-preserved c =
    mapped-more c.args.views.now c.loop-view.view-index c.view-item.result (λ v. v.name) _ _ _ c.loop-view-test.true c.view-item.is c.loop-view.invariant c.in_ok-push.ensures.items c.in_ok-copy.ensures
