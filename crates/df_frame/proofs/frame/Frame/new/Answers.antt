use Rattle.std.proofs.Common.{◌≡◌, ◌∙◌, refl}
use Rattle.df_frame.specs.FrameParts.{frame_state}
use Rattle.df_frame.specs.FrameTables.{numbered_rows}
use Rattle.df_frame.specs.Frames.{empty_frame}
use Rattle.df_frame.proofs.FrameFacts.{empty-sound}
use Rattle.df_frame.proofs.FrameTableFacts.{empty-table, frame-tabled, frame-tables}
use Rattle.df_frame.proofs.frame.Frame.new.Goals as goal

pub invariant_of-result : goal.invariant_of-result
invariant_of-result c =
    frame-tabled empty_frame (empty-sound c.args.schema).numbered c.new-2.result c.in_ok-table.table.rows c.new-2.ensures (c.in_ok-table.ensures.rows ∙ empty-table) 0 0 refl refl

pub returns : goal.returns
returns c =
    let state : frame_state c.new-2.result (numbered_rows c.in_ok-table.table.rows) ≡ empty_frame =
    frame-tables empty_frame (empty-sound c.args.schema).numbered c.new-2.result c.in_ok-table.table.rows c.new-2.ensures (c.in_ok-table.ensures.rows ∙ empty-table) in
    λ i. record { schema = c.in_ok-table.ensures.schema i; state = state i }
