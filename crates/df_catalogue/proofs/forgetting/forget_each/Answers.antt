use Rattle.std.proofs.Common.{◌<◌, length, refl, ◌∙◌, arith}
use Rattle.df_catalogue.proofs.KeptFacts.{forgotten_more, forgotten_whole}
use Rattle.df_catalogue.proofs.ViewLists.{headings_set, live_set}
use Rattle.df_catalogue.proofs.forgetting.forget_each.Goals as goal

pub loop-at-init : goal.loop-at-init
loop-at-init c = record { same = refl; live = λ frames h. h; kept = refl }

pub loop-at-preserved : goal.loop-at-preserved
loop-at-preserved c =
    let views = c.loop-at.views in
    let v = c.forget_view.new.view in
    let d = c.index-views-at.result in
    let lt : c.loop-at.at < length views = omega (arith, c.loop-at-test.true, c.loop-at.auto.views) in
    record {
      same = headings_set views c.loop-at.at v d c.forget_view.ensures.name c.forget_view.ensures.plan ∙ c.loop-at.invariant.same;
      live = λ frames h.
          let live = c.loop-at.invariant.live frames h in
          live_set views c.loop-at.at v frames lt live (c.forget_view.ensures.live frames (live.at c.loop-at.at d lt));
      kept = forgotten_more views c.args.views.now c.loop-at.at v lt c.loop-at.auto.views c.forget_view.ensures.changes c.loop-at.invariant.kept;
    }

pub returns : goal.returns
returns c = record {
  same = c.loop-at.invariant.same;
  live = c.loop-at.invariant.live;
  kept = forgotten_whole c.loop-at.views c.args.views.now c.loop-at.at c.loop-at.auto.views (omega (arith, c.loop-at-test.false, c.loop-at.auto.views)) c.loop-at.invariant.kept;
}
