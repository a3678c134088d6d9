use Rattle.std.proofs.Common.{◌∙◌, ap}
use Rattle.std.specs.Prelude.{◌==◌, is_some, slice_index_or}
use Rattle.std.specs.FinMap as finite
use Rattle.std.specs.List.{list_any}
use Rattle.df_frame.specs.FrameParts.{FrameParts}
use Rattle.df_frame.specs.FrameTables.{numbered_rows}
use Rattle.df_frame.proofs.FrameTableFacts.{find-there, table-found, table-has}
use Rattle.df_frame.proofs.RowLookups.{found}
use Rattle.df_frame.proofs.frame.Frame.has_row.Goals as goal

pub returns : goal.returns
returns c =
    let t = c.self.inside.table.rows in
    let n = c.args.number in
    c.is_some.ensures
    ∙ (find-there c.find.result (finite.get t c.row_tag.result) (λ i d. (slice_index_or (finite.entries t) i d).1) c.find.ensures.row c.find.ensures.absent
    ∙ (ap is_some (table-found t c.self.invariant.tags c.row_tag.result)
    ∙ (ap (λ q. is_some (found q (numbered_rows t))) c.row_tag.ensures
    ∙ (table-has n (numbered_rows t) ∙ ap (λ (f : FrameParts). list_any (λ r. r.0 == n) f.state.rows) c.self.view_is))))
