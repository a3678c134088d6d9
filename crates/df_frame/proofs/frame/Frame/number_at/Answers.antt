use Rattle.std.proofs.Common.{◌<◌, ◌∙◌, get_or, length, ap, subst, sym}
use Rattle.df_frame.specs.FrameParts.{FrameParts}
use Rattle.df_frame.specs.Frames.{numbers_of}
use Rattle.df_frame.proofs.FrameTableFacts.{frame-numbered}
use Rattle.df_frame.proofs.frame.Frame.number_at.Goals as goal

pub number_at-requires-clause-numbered : goal.number_at-requires-clause-numbered
number_at-requires-clause-numbered c =
    frame-numbered c.args.self.now.state c.requires.sound c.self.inside.table.rows c.self.invariant.tags (ap (λ (f : FrameParts). f.state.rows) c.self.view_is)

pub number_at-requires-clause-within : goal.number_at-requires-clause-within
number_at-requires-clause-within c = subst (λ (f : FrameParts). c.args.place < length f.state.rows) (sym c.self.view_is) c.requires.within

pub returns : goal.returns
returns c = c.number_at.ensures ∙ ap (λ (f : FrameParts). get_or (numbers_of f.state) c.args.place 0) c.self.view_is
