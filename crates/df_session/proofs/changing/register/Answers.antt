use Rattle.std.proofs.Common.{subst, sym}
use Rattle.df_state.specs.declared.change.Change.TheVariants.{Register}
use Rattle.df_session.proofs.changing.register.Goals as goal

pub returns-clause-made : goal.returns-clause-made
returns-clause-made g c =
    let s = c.args.store.now in
    let n = c.make.new.self in (
      c.in-Some.plan.now,
      sym c.in-Some.ensures,
      subst (λ p. g.S.ViewStore.Makes s n (Register c.args.view.now p)) c.in_ok-plan.ensures
          (subst (λ t. g.S.ViewStore.Makes s n (Register t c.in_ok-plan.plan)) c.in_ok-name.ensures c.in_ok-make.ensures.made),
    )
