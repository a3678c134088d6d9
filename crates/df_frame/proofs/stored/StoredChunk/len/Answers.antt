use Rattle.std.proofs.Common.{◌∙◌, length, ap, sym}
use Rattle.std.specs.Arc.{arc_value}
use Rattle.df_value.specs.Chunks.{ChunkParts}
use Rattle.df_frame.proofs.StoredRows.{rows_from_length}
use Rattle.df_frame.proofs.stored.StoredChunk.len.Goals as goal

pub returns : goal.returns
returns c =
    sym (rows_from_length (arc_value c.self.inside.table) c.self.inside.low c.self.inside.len c.self.invariant.within)
    ∙ ap (λ (chunk : ChunkParts). length chunk.rows) c.self.view_is
