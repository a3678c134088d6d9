use Rattle.std.proofs.Common.{◌≡◌, ℕ, ◌+◌, ◌<◌, length, get_or, refl, sym, ap, subst, ◌∙◌, arith}
use Rattle.std.proofs.lemmas.List.{length-map}
use Rattle.df_delta.specs.Work.{IsWithin, plus}
use Rattle.df_live.specs.Frames.{changed}
use Rattle.df_live.specs.KeptDiffs.{IsKeptDiff}
use Rattle.df_live.specs.Views.{value, work}
use Rattle.df_catalogue.specs.declared.views.View.{View}
use Rattle.df_catalogue.specs.LiveViews.{plans}
use Rattle.df_catalogue.specs.Work.{work_of_all}
use Rattle.df_catalogue.proofs.KeptFacts.{kept_push, kept_set, kept_whole}
use Rattle.df_catalogue.proofs.WorkFacts.{counted_all, counted_more, counted_none, few_below, few_more, few_none, plan_at, plans_same}
use Rattle.df_state.proofs.Partners.{length-last}
use Rattle.df_catalogue.proofs.ViewLists.{changes_same, headings_set, live_set, staged_push, room_push}
use Rattle.df_catalogue.proofs.live_views.prepare_each.Goals as goal

none-below : (k : ℕ) → k < 0 → ⊥
none-below k h = omega (arith, h)

pub returns-in_err-made-clause-headings : goal.returns-in_err-made-clause-headings
returns-in_err-made-clause-headings c =
    headings_set c.loop-at.views c.loop-at.at c.prepare_view.new.view c.index-views-at.result c.prepare_view.ensures.name c.prepare_view.ensures.plan ∙ c.loop-at.invariant.headings

pub returns-in_err-made-clause-changes : goal.returns-in_err-made-clause-changes
returns-in_err-made-clause-changes c =
    kept_set c.loop-at.views c.loop-at.at c.prepare_view.new.view c.index-views-at.result c.prepare_view.ensures.changes ∙ c.loop-at.invariant.changes

pub returns-in_err-push-clause-changes : goal.returns-in_err-push-clause-changes
returns-in_err-push-clause-changes c =
    kept_set c.loop-at.views c.loop-at.at c.prepare_view.new.view c.index-views-at.result c.prepare_view.ensures.changes ∙ c.loop-at.invariant.changes

pub returns-in_err-made-clause-live : goal.returns-in_err-made-clause-live
returns-in_err-made-clause-live c frames h =
    let lt : c.loop-at.at < length c.loop-at.views = omega (arith, c.loop-at-test.true, c.loop-at.auto.views) in
    let live = c.loop-at.invariant.live frames h in
    live_set c.loop-at.views c.loop-at.at c.prepare_view.new.view frames lt live
    (c.prepare_view.ensures.live frames (live.at c.loop-at.at c.index-views-at.result lt))

pub returns-in_err-push-clause-headings : goal.returns-in_err-push-clause-headings
returns-in_err-push-clause-headings c =
    headings_set c.loop-at.views c.loop-at.at c.prepare_view.new.view c.index-views-at.result c.prepare_view.ensures.name c.prepare_view.ensures.plan ∙ c.loop-at.invariant.headings

pub returns-in_err-push-clause-live : goal.returns-in_err-push-clause-live
returns-in_err-push-clause-live c frames h =
    let lt : c.loop-at.at < length c.loop-at.views = omega (arith, c.loop-at-test.true, c.loop-at.auto.views) in
    let live = c.loop-at.invariant.live frames h in
    live_set c.loop-at.views c.loop-at.at c.prepare_view.new.view frames lt live
    (c.prepare_view.ensures.live frames (live.at c.loop-at.at c.index-views-at.result lt))

pub loop-at-preserved : goal.loop-at-preserved
loop-at-preserved c =
    let lt : c.loop-at.at < length c.loop-at.views = omega (arith, c.loop-at-test.true, c.loop-at.auto.views) in
    record {
      headings = headings_set c.loop-at.views c.loop-at.at c.prepare_view.new.view c.index-views-at.result c.prepare_view.ensures.name c.prepare_view.ensures.plan ∙ c.loop-at.invariant.headings;
      live = λ frames h.
          let live = c.loop-at.invariant.live frames h in
          live_set c.loop-at.views c.loop-at.at c.prepare_view.new.view frames lt live
          (c.prepare_view.ensures.live frames (live.at c.loop-at.at c.index-views-at.result lt));
      count = rw c.in_ok-push.ensures.items (length-last c.loop-at.staged.items c.in_ok-made.made ∙ ap (λ (n : ℕ). n + 1) c.loop-at.invariant.count);
      staged = λ frames h change.
          rw c.in_ok-push.ensures.items
          (staged_push c.loop-at.views c.loop-at.staged.items c.loop-at.at c.prepare_view.new.view c.in_ok-made.made (changed frames c.args.frame c.args.delta.now)
          c.loop-at.invariant.count lt (c.loop-at.invariant.staged frames h change)
          (c.in_ok-made.ensures.staged frames ((c.loop-at.invariant.live frames h).at c.loop-at.at c.index-views-at.result lt)
          ((changes_same c.loop-at.views c.args.views.now frames c.args.frame c.args.delta.now c.loop-at.invariant.headings change).at c.loop-at.at c.index-views-at.result lt)));
      room =
          rw c.in_ok-push.ensures.items
          (room_push c.loop-at.views c.loop-at.staged.items c.loop-at.at c.prepare_view.new.view c.in_ok-made.made
          c.loop-at.invariant.count lt c.loop-at.invariant.room c.in_ok-made.ensures.room);
      few = few_more c.loop-at.meter c.prepare_view.new.meter c.loop-at.at c.loop-at.invariant.few c.prepare_view.ensures.bound;
      work = λ frames h change.
          let views = c.loop-at.views in
          let others = c.args.views.now in
          let d = c.index-views-at.result in
          let long : length (plans others) ≡ length others = length-map others (λ (v : View). v.live.plan) in
          let same : length views ≡ length others = c.loop-at.auto.views in
          let is = sym (plan_at views c.loop-at.at d) ∙ ap (λ ps. get_or ps c.loop-at.at d.live.plan) (plans_same views others c.loop-at.invariant.headings) in
          let came = c.prepare_view.ensures.work frames ((c.loop-at.invariant.live frames h).at c.loop-at.at d lt)
          ((changes_same views others frames c.args.frame c.args.delta.now c.loop-at.invariant.headings change).at c.loop-at.at d lt) in
          counted_more (plans others) c.loop-at.at d.live.plan frames (changed frames c.args.frame c.args.delta.now) c.loop-at.meter c.prepare_view.new.meter
          (work_of_all (plans others) frames (changed frames c.args.frame c.args.delta.now)) (omega (arith, lt, long, same))
          (subst (λ p. IsWithin c.prepare_view.new.meter (plus c.loop-at.meter (work p frames (changed frames c.args.frame c.args.delta.now)))) is came)
          (c.loop-at.invariant.work frames h change);
      changes = kept_set c.loop-at.views c.loop-at.at c.prepare_view.new.view c.index-views-at.result c.prepare_view.ensures.changes ∙ c.loop-at.invariant.changes;
      kept = λ frames h change.
          let views = c.loop-at.views in
          let others = c.args.views.now in
          let d = c.index-views-at.result in
          let after = changed frames c.args.frame c.args.delta.now in
          let long : length (plans others) ≡ length others = length-map others (λ (v : View). v.live.plan) in
          let same : length views ≡ length others = c.loop-at.auto.views in
          let is = sym (plan_at views c.loop-at.at d) ∙ ap (λ ps. get_or ps c.loop-at.at d.live.plan) (plans_same views others c.loop-at.invariant.headings) in
          let made = c.in_ok-made.ensures.kept frames ((c.loop-at.invariant.live frames h).at c.loop-at.at d lt)
          ((changes_same views others frames c.args.frame c.args.delta.now c.loop-at.invariant.headings change).at c.loop-at.at d lt) in
          rw c.in_ok-push.ensures.items
          (kept_push c.args.keeps frames after (plans others) c.loop-at.at d.live.plan c.loop-at.staged.items c.in_ok-made.made (omega (arith, lt, long, same))
          (c.loop-at.invariant.kept frames h change)
          (subst (λ p. IsKeptDiff c.args.keeps (value p frames) (value p after) c.in_ok-made.made.changes) is made));
    }

pub loop-at-init : goal.loop-at-init
loop-at-init c = record {
  headings = refl;
  live = λ frames h. h;
  count = ap length c.in_ok-staged.ensures.items;
  staged = λ frames h change. record { at = λ k d e below. absurd (none-below k (subst (λ xs. k < length xs) c.in_ok-staged.ensures.items below)) };
  room = record { at = λ k d e below. absurd (none-below k (subst (λ xs. k < length xs) c.in_ok-staged.ensures.items below)) };
  few = few_none c.args.meter.now c.requires.meter;
  work = λ frames h change. counted_none (plans c.args.views.now) frames (changed frames c.args.frame c.args.delta.now) c.args.meter.now c.requires.meter;
  changes = refl;
  kept = λ frames h change. rw c.in_ok-staged.ensures.items tt;
}

pub prepare_view-requires : goal.prepare_view-requires
prepare_view-requires c = few_below c.loop-at.meter c.loop-at.at (omega (arith, c.loop-at-test.true, c.requires.few)) c.loop-at.invariant.few

pub returns-clause-work : goal.returns-clause-work
returns-clause-work c frames h change =
    let others = c.args.views.now in
    let long : length (plans others) ≡ length others = length-map others (λ (v : View). v.live.plan) in
    counted_all (plans others) c.loop-at.at frames (changed frames c.args.frame c.args.delta.now) c.loop-at.meter
    (work_of_all (plans others) frames (changed frames c.args.frame c.args.delta.now)) (omega (arith, long, c.loop-at-test.false))
    (c.loop-at.invariant.work frames h change)

pub returns-clause-kept : goal.returns-clause-kept
returns-clause-kept c frames h change =
    let others = c.args.views.now in
    let long : length (plans others) ≡ length others = length-map others (λ (v : View). v.live.plan) in
    kept_whole c.args.keeps frames (changed frames c.args.frame c.args.delta.now) (plans others) c.loop-at.at c.loop-at.staged.items
    (omega (arith, long, c.loop-at-test.false)) (c.loop-at.invariant.kept frames h change)
