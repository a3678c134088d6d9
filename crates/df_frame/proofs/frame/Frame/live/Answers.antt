use Rattle.std.proofs.Common.{◌∙◌, length, ap}
use Rattle.df_frame.specs.FrameParts.{FrameParts}
use Rattle.df_frame.proofs.FrameTableFacts.{table-length}
use Rattle.df_frame.proofs.frame.Frame.live.Goals as goal

pub returns : goal.returns
returns c =
    c.len.ensures.value ∙ (table-length c.self.inside.table.rows ∙ ap (λ (f : FrameParts). length f.state.rows) c.self.view_is)
