use Rattle.std.proofs.Common.{◌≡◌, ◌*◌, ◌∙◌, ℕ, ap, subst, sym}
use Rattle.df_column.specs.Changes.{applied}
use Rattle.df_column.specs.Tables.{TaggedRows}
use Rattle.df_delta.specs.Deltas.{RowsFit}
use Rattle.df_delta.specs.Differences.{IsDiff}
use Rattle.df_delta.specs.Work.{IsWithin, plus}
use Rattle.df_delta.proofs.SameRows.{len-diff}
use Rattle.df_nodes.specs.Rolling.{windows}
use Rattle.df_nodes.proofs.window.LiveWindowLiveNode.prepare.Goals as goal

pub returns-in_err-changes-clause-meter : goal.returns-in_err-changes-clause-meter
returns-in_err-changes-clause-meter c t h =
    subst (λ (n : ℕ). IsWithin c.changes.new.meter (plus c.args.meter.now (windows (n * c.args.self.now.rolling.w))))
    (len-diff t c.args.delta.now h.lean h.fits) c.changes.ensures.counted

pub returns-in_err-changes-2-clause-meter : goal.returns-in_err-changes-2-clause-meter
returns-in_err-changes-2-clause-meter c t h =
    subst (λ (n : ℕ). IsWithin c.changes.new.meter (plus c.args.meter.now (windows (n * c.args.self.now.rolling.w))))
    (len-diff t c.args.delta.now h.lean h.fits) c.changes.ensures.counted

pub returns-in_err-output-clause-meter : goal.returns-in_err-output-clause-meter
returns-in_err-output-clause-meter c t h =
    subst (λ (n : ℕ). IsWithin c.changes.new.meter (plus c.args.meter.now (windows (n * c.args.self.now.rolling.w))))
    (len-diff t c.args.delta.now h.lean h.fits) c.changes.ensures.counted

pub returns-clause-meter : goal.returns-clause-meter
returns-clause-meter c t h =
    subst (λ (n : ℕ). IsWithin c.changes.new.meter (plus c.args.meter.now (windows (n * c.args.self.now.rolling.w))))
    (len-diff t c.args.delta.now h.lean h.fits) c.changes.ensures.counted

-- the new input and the new output, where the old ones are those of t
pub returns-clause-diff : goal.returns-clause-diff
returns-clause-diff c t h =
    let n = c.args.self.now in
    let d = c.args.delta.now in
    let is : n.input.rows ≡ t = h.over.0 in
    let fit : RowsFit n.input.schema (applied n.input.rows d) = subst (λ (m : TaggedRows). RowsFit n.input.schema (applied m d)) (sym is) h.after.0 in
    subst (IsDiff _ _) (sym c.in_ok-changes-2.ensures) (c.in_ok-changes.ensures.diff t h.fits h.over.1 (c.in_ok-input.ensures.rows fit ∙ ap (λ (m : TaggedRows). applied m d) is))

pub returns-clause-staged : goal.returns-clause-staged
returns-clause-staged c t h =
    let n = c.args.self.now in
    let d = c.args.delta.now in
    let is : n.input.rows ≡ t = h.over.0 in
    let fit : RowsFit n.input.schema (applied n.input.rows d) = subst (λ (m : TaggedRows). RowsFit n.input.schema (applied m d)) (sym is) h.after.0 in
    let made = ap (λ (m : TaggedRows). applied m c.in_ok-changes-2.changes) h.over.1 ∙ (returns-clause-diff c t h).gives in (
      c.in_ok-input.ensures.rows fit ∙ ap (λ (m : TaggedRows). applied m d) is,
      c.in_ok-output.ensures.rows (subst (RowsFit n.output.schema) (sym made) h.after.1) ∙ made,
    )
