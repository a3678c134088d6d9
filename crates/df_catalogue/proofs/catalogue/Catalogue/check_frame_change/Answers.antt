use Rattle.std.proofs.Common.{◌∙◌, ap, subst}
use Rattle.df_frame.specs.FrameParts.{schemas_of, states_of}
use Rattle.df_state.specs.Answers.{AnswersTest}
use Rattle.df_state.specs.FrameChanges.{frame_refusal}
use Rattle.df_state.proofs.FrameChangeFacts.{refusal-of-frames}
use Rattle.df_state.proofs.StateFacts.{state-of}
use Rattle.df_catalogue.proofs.catalogue.Catalogue.check_frame_change.Goals as goal

pub returns-clause-answer : goal.returns-clause-answer
returns-clause-answer g c =
    subst (λ r. AnswersTest r c.check_frame_change.result)
    (ap (λ fs. frame_refusal (schemas_of fs) (states_of fs) c.args.frame c.args.change) c.as_slice.ensures.value
    ∙ (ap (λ s. frame_refusal s.schemas s.frames c.args.frame c.args.change) (state-of c.self.view_is)
    ∙ refusal-of-frames c.args.self.now.state c.args.frame c.args.change))
    c.check_frame_change.ensures
