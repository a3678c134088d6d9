use Rattle.std.proofs.Common.{◌∙◌, ap, map, subst, sym}
use Rattle.std.specs.Prelude.{T}
use Rattle.std.specs.FinMap as finite
use Rattle.df_column.specs.Tags.{tag_cmp}
use Rattle.df_delta.specs.Differences.{IsDiff}
use Rattle.df_frame.specs.FrameTables.{set_rows}
use Rattle.df_frame.proofs.DeltaFacts.{changes-rise, set-diff}
use Rattle.df_frame.proofs.deltas.delta_at.Goals as goal

pub from_entries-requires : goal.from_entries-requires
from_entries-requires g c = record {
  rising =
      subst (λ es. T (finite.is_sorted tag_cmp es)) (sym c.in_ok-entries.ensures.changes)
      (changes-rise c.args.table.now.rows c.in_ok-new_rows.new_rows c.in_ok-new_rows.ensures.rising);
  rows = c.in_ok-entries.ensures.rows;
}

pub returns : goal.returns
returns g c =
    let t = c.args.table.now.rows in
    let rs = map (λ item. (g.N.HasNumber.number_of item, g.N.NewRow.row_of item)) c.args.items.now in
    subst (IsDiff t (set_rows t rs)) (sym (c.from_entries.ensures ∙ ap finite.from_sorted c.in_ok-entries.ensures.changes))
    (set-diff t rs c.in_ok-new_rows.new_rows c.in_ok-new_rows.ensures)
