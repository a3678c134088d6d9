use Rattle.std.proofs.Common.{◌∙◌, ap}
use Rattle.std.proofs.lemmas.Result.{IfOk-weaker}
use Rattle.df_state.specs.Pictures.{value_in}
use Rattle.df_state.proofs.PictureFacts.{value-of-state}
use Rattle.df_versions.proofs.version.Version.computed_rows.Goals as goal

pub returns-clause-state : goal.returns-clause-state
returns-clause-state c s is =
    let shown = ap (λ p. value_in p c.args.plan.now) (ap (λ v. v.1) c.self.view_is ∙ is) ∙ value-of-state s c.args.plan.now in
    IfOk-weaker c.computed_rows.result _ _ (λ made h. h ∙ shown) c.computed_rows.ensures
