use Rattle.std.proofs.Common.{◌∙◌, ap}
use Rattle.std.proofs.lemmas.Result.{IfOk-weaker}
use Rattle.df_frame.specs.FrameParts.{FrameParts}
use Rattle.df_frame.specs.Frames.{numbers_of}
use Rattle.df_frame.proofs.FrameTableFacts.{frame-numbered}
use Rattle.df_frame.proofs.frame.Frame.numbers.Goals as goal

pub row_numbers-requires : goal.row_numbers-requires
row_numbers-requires c =
    frame-numbered c.args.self.now.state c.requires c.self.inside.table.rows c.self.invariant.tags (ap (λ (f : FrameParts). f.state.rows) c.self.view_is)

pub returns : goal.returns
returns c = IfOk-weaker c.row_numbers.result _ _ (λ made is. is ∙ ap (λ (f : FrameParts). numbers_of f.state) c.self.view_is) c.row_numbers.ensures
