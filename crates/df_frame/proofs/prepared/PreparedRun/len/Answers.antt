use Rattle.std.proofs.Common.{◌∙◌, length, ap, sym}
use Rattle.std.specs.Arc.{arc_value}
use Rattle.std.specs.FinMap as finite
use Rattle.std.proofs.lemmas.List.{length-map}
use Rattle.df_value.specs.Chunks.{ChunkParts}
use Rattle.df_column.specs.Tables.{TableParts}
use Rattle.df_frame.proofs.prepared.PreparedRun.len.Goals as goal

pub returns-clause-value : goal.returns-clause-value
returns-clause-value c =
    let own = arc_value c.self.inside.table in
    c.len.ensures.value
    ∙ (ap (λ (t : TableParts). finite.len t.rows) c.deref.ensures
    ∙ (finite.len-entries own.rows ∙ (sym (length-map (finite.entries own.rows) (λ e. e.1)) ∙ ap (λ (x : ChunkParts). length x.rows) c.self.view_is)))
