use Rattle.std.proofs.lemmas.Result.{on_ok_weaker}
use Rattle.df_session.proofs.defining.define.Goals as goal

-- the view that was checked is the one that was added
pub returns-clause-made : goal.returns-clause-made
returns-clause-made g c =
    rw c.in_ok-steps.was
    (on_ok_weaker c.add_view.result
    (λ e. (c.in_ok-spec.spec, c.in_ok-spec.plan, rw c.as_slice.ensures.value at c.in_ok-spec.ensures.said, e.0, e.1)) c.add_view.ensures.made)
