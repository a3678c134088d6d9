use Rattle.std.proofs.Common.{◌≤◌, ◌^◌, ◌∙◌, ap, subst, sym}
use Rattle.std.specs.FinMap as finite
use Rattle.df_column.specs.Changes.{applied}
use Rattle.df_delta.specs.Deltas.{RowsFit}
use Rattle.df_delta.specs.Differences.{IsDiff}
use Rattle.df_ranks.specs.Rises.{AreRises}
use Rattle.df_ranks.proofs.RankDeltas.{prepared}
use Rattle.df_ranks.proofs.rank.LiveRankLiveNode.prepare.Goals as goal

pub returns-clause-diff : goal.returns-clause-diff
returns-clause-diff c t h =
    let s = c.args.self.now in
    let d = c.args.delta.now in
    let old = s.counts in
    let rises = c.in_ok-rises.rises in
    let stage = c.in_ok-counts.ensures in
    let few = subst (λ n. n ≤ 2 ^ 60) c.len-few.ensures.value c.len-few.ensures.few in
    let fit = subst (λ m. RowsFit s.input.schema (applied m d)) (sym h.over.rows) h.after.rows in
    let p = prepared s.column.schema s.column.name s.column.kind s.column.index t d s.input.rows s.output.rows old c.entries.result.now rises c.in_ok-input.input.rows
    c.in_ok-counts.counts stage.again.least stage.again.tags c.in_ok-counts.changes
    stage.sorted h.over.few h.over.rows h.over.ranks h.over.values h.fits c.entries.ensures.all (subst (λ i. AreRises rises i c.entries.result.now) c.index.ensures c.in_ok-rises.ensures) stage.rising
    (c.in_ok-input.ensures.rows fit) few stage.counted stage.again.stay stage.again.reach stage.again.made in
    subst (IsDiff _ _) (sym c.in_ok-changes.ensures) p.diff

pub returns-clause-staged : goal.returns-clause-staged
returns-clause-staged c t h =
    let s = c.args.self.now in
    let d = c.args.delta.now in
    let old = s.counts in
    let rises = c.in_ok-rises.rises in
    let stage = c.in_ok-counts.ensures in
    let few = subst (λ n. n ≤ 2 ^ 60) c.len-few.ensures.value c.len-few.ensures.few in
    let fit = subst (λ m. RowsFit s.input.schema (applied m d)) (sym h.over.rows) h.after.rows in
    let p = prepared s.column.schema s.column.name s.column.kind s.column.index t d s.input.rows s.output.rows old c.entries.result.now rises c.in_ok-input.input.rows
    c.in_ok-counts.counts stage.again.least stage.again.tags c.in_ok-counts.changes
    stage.sorted h.over.few h.over.rows h.over.ranks h.over.values h.fits c.entries.ensures.all (subst (λ i. AreRises rises i c.entries.result.now) c.index.ensures c.in_ok-rises.ensures) stage.rising
    (c.in_ok-input.ensures.rows fit) few stage.counted stage.again.stay stage.again.reach stage.again.made in
    let gives = ap (λ m. applied m c.in_ok-changes.changes) h.over.ranks ∙ (returns-clause-diff c t h).gives in
    record {
      few = subst (λ m. finite.len m ≤ 2 ^ 60) p.rows_are few;
      rows = p.rows_are;
      ranks = c.in_ok-output.ensures.rows (subst (RowsFit s.output.schema) (sym gives) h.after.ranks) ∙ gives;
      values = p.counts_are;
    }
