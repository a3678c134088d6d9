use Rattle.std.proofs.Common.{subst}
use Rattle.df_live.specs.Views.{IsLive}
use Rattle.df_live.proofs.Filling.{change_filled}
use Rattle.df_live.proofs.view.LiveView.fill.Goals as goal

pub returns-clause-live : goal.returns-clause-live
returns-clause-live c frames live may =
    let filled = change_filled _ frames c.args.frame c.args.table.now.rows c.in_ok-delta.delta may c.in_ok-delta.ensures in
    subst (λ fs. IsLive c.commit.new.self fs) filled.0 (c.commit.ensures.over _ (c.in_ok-staged.ensures.staged frames live filled.1))
