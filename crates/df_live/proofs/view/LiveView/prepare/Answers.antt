use Rattle.std.proofs.Common.{◌≡◌, ◌∙◌, ap, subst, sym}
use Rattle.std.specs.FinMap as finite
use Rattle.df_delta.specs.Work.{IsWithin, plus}
use Rattle.df_live.specs.Frames.{changed}
use Rattle.df_live.specs.Views.{value}
use Rattle.df_live.specs.KeptDiffs.{IsKeptDiff}
use Rattle.df_live.proofs.ViewLaws.{follows, kept_diff, same_is_of, table_after}
use Rattle.df_live.proofs.view.LiveView.prepare.Goals as goal

pub returns-clause-contents : goal.returns-clause-contents
returns-clause-contents c frames h = record {
  of_plan = same_is_of _ _ _ c.prepare.ensures.operator c.prepare.ensures.same_bound c.prepare.ensures.takes h.of_plan;
  over = c.prepare.ensures.contents frames h.over;
  table = h.table;
  schema = h.schema;
  rows = h.rows;
}

pub returns-in_err-table-clause-contents : goal.returns-in_err-table-clause-contents
returns-in_err-table-clause-contents c frames h = record {
  of_plan = same_is_of _ _ _ c.prepare.ensures.operator c.prepare.ensures.same_bound c.prepare.ensures.takes h.of_plan;
  over = c.prepare.ensures.contents frames h.over;
  table = h.table;
  schema = h.schema;
  rows = h.rows;
}

pub returns-in_err-tree-clause-contents : goal.returns-in_err-tree-clause-contents
returns-in_err-tree-clause-contents c frames h = record {
  of_plan = same_is_of _ _ _ c.prepare.ensures.operator c.prepare.ensures.same_bound c.prepare.ensures.takes h.of_plan;
  over = c.prepare.ensures.contents frames h.over;
  table = h.table;
  schema = h.schema;
  rows = h.rows;
}

pub returns-clause-work : goal.returns-clause-work
returns-clause-work c frames h change =
    let after = changed frames c.args.frame c.args.delta.now in
    subst (λ w. IsWithin c.prepare.new.meter (plus c.args.meter.now w)) (h.of_plan.work frames after) (c.prepare.ensures.meter frames (follows _ _ _ _ _ h.of_plan h.over change))

pub returns-in_err-table-clause-work : goal.returns-in_err-table-clause-work
returns-in_err-table-clause-work c frames h change =
    let after = changed frames c.args.frame c.args.delta.now in
    subst (λ w. IsWithin c.prepare.new.meter (plus c.args.meter.now w)) (h.of_plan.work frames after) (c.prepare.ensures.meter frames (follows _ _ _ _ _ h.of_plan h.over change))

pub returns-in_err-tree-clause-work : goal.returns-in_err-tree-clause-work
returns-in_err-tree-clause-work c frames h change =
    let after = changed frames c.args.frame c.args.delta.now in
    subst (λ w. IsWithin c.prepare.new.meter (plus c.args.meter.now w)) (h.of_plan.work frames after) (c.prepare.ensures.meter frames (follows _ _ _ _ _ h.of_plan h.over change))

pub returns-clause-staged : goal.returns-clause-staged
returns-clause-staged c frames h change =
    let plan = c.args.self.now.plan in
    let after = changed frames c.args.frame c.args.delta.now in
    let follow = follows _ _ _ _ _ h.of_plan h.over change in
    let table : c.in_ok-table.table.rows ≡ value plan after =
    table_after c.args.self.now.tree plan frames after c.args.self.now.table c.in_ok-table.table c.in_ok-tree.changes h.of_plan h.table h.schema change.after (c.in_ok-tree.ensures.diff frames follow) c.in_ok-table.ensures.rows in
    record {
      of_plan = same_is_of _ _ _ c.prepare.ensures.operator c.prepare.ensures.same_bound c.prepare.ensures.takes h.of_plan;
      over = c.in_ok-tree.ensures.staged frames follow;
      table = table;
      schema = c.in_ok-table.ensures.schema ∙ h.schema;
      rows = ap (finite.values) table ∙ h.of_plan.rows after change.after;
    }

pub returns-clause-kept : goal.returns-clause-kept
returns-clause-kept c frames h change =
    let plan = c.args.self.now.plan in
    let after = changed frames c.args.frame c.args.delta.now in
    let diff = c.in_ok-tree.ensures.diff frames (follows _ _ _ _ _ h.of_plan h.over change) in
    subst (IsKeptDiff c.args.keeps (value plan frames) (value plan after)) (sym c.in_ok-table.ensures.kept)
    (kept_diff c.args.self.now.tree plan frames after c.args.keeps c.in_ok-tree.changes h.of_plan diff)
