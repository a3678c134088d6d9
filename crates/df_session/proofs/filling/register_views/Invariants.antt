use Rattle.std.proofs.Common.{map}
use Rattle.df_session.specs.Filling.{AreMade, registration}
use Rattle.df_session.proofs.filling.register_views.Given as goal

abbrev pub invariant-loop-view : goal.invariant-loop-view
invariant-loop-view g l =
    AreMade g.S.ViewStore.Makes l.fn.store l.store (map (λ p. registration (p.0.now, p.1.now)) l.yielded)
