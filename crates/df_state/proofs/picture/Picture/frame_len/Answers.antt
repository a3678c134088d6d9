use Rattle.std.proofs.Common.{◌∙◌, Some, ap, length}
use Rattle.std.specs.Prelude.{option_map}
use Rattle.df_frame.proofs.FrameTableFacts.{table-length}
use Rattle.df_state.proofs.picture.Picture.frame_len.Goals as goal

pub returns : goal.returns
returns c = ap Some (c.len.ensures.value ∙ table-length c.in_ok-table.table.now.rows) ∙ ap (option_map length) c.in_ok-table.ensures.rows
