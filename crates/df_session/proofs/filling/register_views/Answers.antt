use Rattle.std.proofs.Common.{◌≡◌, ◌∙◌, ap, map, subst, sym}
use Rattle.std.proofs.lemmas.Iterator.{YieldsList-from_slice, YieldsList-from_zip}
use Rattle.std.proofs.lemmas.Simd.{map-map}
use Rattle.std.proofs.lemmas.Iterator.Consumers.{YieldsList-end}
use Rattle.df_state.specs.declared.change.Change.TheVariants.{Register}
use Rattle.df_session.proofs.AreMadeFacts.{all-each}
use Rattle.df_session.specs.Filling.{AreMade, registration}
use Rattle.df_session.proofs.filling.register_views.Goals as goal

pub loop-view-preserved : goal.loop-view-preserved
loop-view-preserved g c =
    let s = c.loop-view.store in
    let n = c.make.new.self in
    let made : g.S.ViewStore.Makes s n (registration (c.in-Some.view.now, c.in-Some.plan.now)) = subst (λ p. g.S.ViewStore.Makes s n (Register c.in-Some.view.now.name p)) c.in_ok-plan.ensures
    (subst (λ t. g.S.ViewStore.Makes s n (Register t c.in_ok-plan.plan)) c.in_ok-name.ensures c.in_ok-make.ensures.made) in
    all-each g.S.ViewStore.Makes (λ p. registration (p.0.now, p.1.now)) c.args.store.now s n c.loop-view.yielded (c.in-Some.view, c.in-Some.plan) c.loop-view.invariant made

pub returns : goal.returns
returns g c =
    let views = c.args.definitions.now.document.views in
    let plans = c.args.definitions.now.plans in
    let given = c.into_iter-view-iterator.ensures.into_iter_gives in
    let first = c.zip-view-items.ensures.first in
    let second = c.zip-view-items.ensures.second in
    let of_iter = c.iter.ensures.rest in
    let of_views = c.as_slice-views.ensures in
    let of_plans = c.as_slice.ensures in
    let left : c.into_iter-view-iterator.result.a.rest.now ≡ views = cc in
    let right : c.into_iter-view-iterator.result.b.rest.now ≡ plans = cc in
    let each = YieldsList-from_zip (YieldsList-from_slice {s = c.into_iter-view-iterator.result.a} views left) (YieldsList-from_slice {s = c.into_iter-view-iterator.result.b} plans right) in
    let all = YieldsList-end each c.loop-view.yielded c.loop-view.view-iterator c.loop-view.yielded_by c.next.result c.next.new.self c.in-None.is c.next.ensures.steps in
    subst (AreMade g.S.ViewStore.Makes c.args.store.now c.loop-view.store)
    (sym (map-map registration (λ p. (p.0.now, p.1.now)) c.loop-view.yielded) ∙ ap (map registration) all.0) c.loop-view.invariant
