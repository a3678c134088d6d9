use Rattle.std.proofs.Common.{◌∙◌, ap}
use Rattle.df_state.specs.Pictures.{frame_len_in}
use Rattle.df_state.proofs.PictureFacts.{len-of-state}
use Rattle.df_versions.proofs.version.Version.frame_len.Goals as goal

pub returns-clause-state : goal.returns-clause-state
returns-clause-state c s is = c.frame_len.ensures ∙ (ap (λ p. frame_len_in p c.args.frame) (ap (λ v. v.1) c.self.view_is ∙ is) ∙ len-of-state s c.args.frame)
