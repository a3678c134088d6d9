use Rattle.std.proofs.Common.{◌∙◌, ◌++◌, ◌∷◌, [], ap, subst}
use Rattle.dataframes.specs.Builders.{BuilderParts, HasOneMore}
use Rattle.dataframes.proofs.builder.ServiceBuilder.add_view.Goals as goal

pub returns-in_ok-push-in-Ok-clause-added : goal.returns-in_ok-push-in-Ok-clause-added
returns-in_ok-push-in-Ok-clause-added c =
    let s = c.self.inside in
    let p = c.in_ok-plan in
    let old : BuilderParts = record { schemas = s.frames.items; views = s.views.items } in
    let pushed = c.in_ok-push-in-Ok.ensures.items ∙ ap (λ n. s.views.items ++ (n, p.plan) ∷ []) c.in-Ok.ensures in
    subst (λ b. HasOneMore b c.args.name.now c.args.plan (record old { views = c.push.new.self.items })) c.self.view_is
    (record { checked = p.plan; of_plan = p.ensures.plan; over = p.ensures.frames ∙ c.as_slice.ensures.value; added = λ i. record old { views = pushed i } })
