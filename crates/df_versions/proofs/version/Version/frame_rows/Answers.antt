use Rattle.std.proofs.Common.{◌∙◌, ap, subst}
use Rattle.df_state.specs.Answers.{AnswersMemoryLast}
use Rattle.df_state.specs.Pictures.{frame_rows_in}
use Rattle.df_state.proofs.PictureFacts.{frame-of-state}
use Rattle.df_versions.proofs.version.Version.frame_rows.Goals as goal

pub returns-clause-state : goal.returns-clause-state
returns-clause-state c s is =
    subst (λ want. AnswersMemoryLast want c.frame_rows.result) (ap (λ p. frame_rows_in p c.args.frame) (ap (λ v. v.1) c.self.view_is ∙ is) ∙ frame-of-state s c.args.frame) c.frame_rows.ensures
