use Rattle.std.proofs.Common.{◌∙◌, ap, sym}
use Rattle.std.specs.FinMap as finite
use Rattle.df_frame.specs.FrameParts.{FrameParts}
use Rattle.df_frame.specs.Frames.{rows_of}
use Rattle.df_frame.proofs.FrameTableFacts.{numbered-cells}
use Rattle.df_frame.proofs.frame.Frame.rows.Goals as goal

pub returns : goal.returns
returns c =
    c.from_vec.ensures ∙ (c.in_ok-rows.ensures ∙ (sym (numbered-cells (finite.entries c.self.inside.table.rows)) ∙ ap (λ (f : FrameParts). rows_of f.state) c.self.view_is))
