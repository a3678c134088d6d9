use Rattle.std.proofs.Common.{◌∙◌, ap, subst}
use Rattle.df_state.specs.Answers.{AnswersMemoryLast}
use Rattle.df_state.specs.Pictures.{view_rows_in}
use Rattle.df_state.proofs.PictureFacts.{view-of-state}
use Rattle.df_versions.proofs.version.Version.view_rows.Goals as goal

pub returns-clause-state : goal.returns-clause-state
returns-clause-state c s is =
    subst (λ want. AnswersMemoryLast want c.view_rows.result) (ap (λ p. view_rows_in p c.args.name.now) (ap (λ v. v.1) c.self.view_is ∙ is) ∙ view-of-state s c.args.name.now) c.view_rows.ensures
