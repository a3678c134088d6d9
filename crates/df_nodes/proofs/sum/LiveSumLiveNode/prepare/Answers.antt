use Rattle.std.proofs.Common.{◌≡◌, ◌∙◌, ap, subst, sym}
use Rattle.df_column.specs.Changes.{applied}
use Rattle.df_column.specs.Tables.{TaggedRows}
use Rattle.df_delta.specs.Deltas.{RowsFit}
use Rattle.df_delta.specs.Differences.{IsDiff}
use Rattle.df_nodes.proofs.sum.LiveSumLiveNode.prepare.Goals as goal

-- the new input and the new output, where the old ones are those of t
pub returns-clause-diff : goal.returns-clause-diff
returns-clause-diff c t h =
    let n = c.args.self.now in
    let d = c.args.delta.now in
    let is : n.input.rows ≡ t = h.over.0 in
    let fit : RowsFit n.input.schema (applied n.input.rows d) = subst (λ (m : TaggedRows). RowsFit n.input.schema (applied m d)) (sym is) h.after.0 in
    subst (IsDiff _ _) (sym c.in_ok-changes-2.ensures) (c.in_ok-changes.ensures t h.fits h.over.1 (c.in_ok-input.ensures.rows fit ∙ ap (λ (m : TaggedRows). applied m d) is))

pub returns-clause-staged : goal.returns-clause-staged
returns-clause-staged c t h =
    let n = c.args.self.now in
    let d = c.args.delta.now in
    let is : n.input.rows ≡ t = h.over.0 in
    let fit : RowsFit n.input.schema (applied n.input.rows d) = subst (λ (m : TaggedRows). RowsFit n.input.schema (applied m d)) (sym is) h.after.0 in
    let made = ap (λ (m : TaggedRows). applied m c.in_ok-changes-2.changes) h.over.1 ∙ (returns-clause-diff c t h).gives in (
      c.in_ok-input.ensures.rows fit ∙ ap (λ (m : TaggedRows). applied m d) is,
      c.in_ok-output.ensures.rows (subst (RowsFit n.output.schema) (sym made) h.after.1) ∙ made,
    )
