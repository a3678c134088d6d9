use Rattle.std.proofs.Common.{◌∙◌, ap, refl, sym}
use Rattle.std.specs.FinMap as finite
use Rattle.df_delta.specs.SameRows.{with_change}
use Rattle.df_frame.proofs.DeltaFacts.{changes-more}
use Rattle.df_frame.proofs.deltas.entries_at.Goals as goal

pub loop-tag-preserved : goal.loop-tag-preserved
loop-tag-preserved c =
    let t = c.args.table.now.rows in
    let old = finite.get t c.in-Some.tag in record {
      changes =
          c.in_ok-push_row.ensures.added
          ∙ (ap (λ es. with_change es c.in-Some.tag old c.in-Some.new) c.loop-tag.invariant.changes
          ∙ sym (changes-more t c.loop-tag.yielded c.in-Some.tag old c.in-Some.new refl));
      rows = c.in_ok-push_row.ensures.rows c.loop-tag.invariant.rows;
    }
