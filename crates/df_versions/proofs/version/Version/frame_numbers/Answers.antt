use Rattle.std.proofs.Common.{◌∙◌, ap, subst}
use Rattle.df_state.specs.Answers.{AnswersMemoryLast}
use Rattle.df_state.specs.Pictures.{frame_numbers_in}
use Rattle.df_state.proofs.PictureFacts.{numbers-of-state}
use Rattle.df_versions.proofs.version.Version.frame_numbers.Goals as goal

pub returns-clause-state : goal.returns-clause-state
returns-clause-state c s is =
    subst (λ want. AnswersMemoryLast want c.frame_numbers.result) (ap (λ p. frame_numbers_in p c.args.frame) (ap (λ v. v.1) c.self.view_is ∙ is) ∙ numbers-of-state s c.args.frame) c.frame_numbers.ensures
