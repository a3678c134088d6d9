use Rattle.std.proofs.Common.{◌∙◌}
use Rattle.df_shell.proofs.CheckFacts.{same_rows}
use Rattle.df_shell.proofs.checking.is_same.Goals as goal

pub returns-clause-same : goal.returns-clause-same
returns-clause-same g c = c.eq.ensures ∙ same_rows _ _ _ c.in_ok-rows.ensures.answer c.in_ok-computed.ensures.answer
