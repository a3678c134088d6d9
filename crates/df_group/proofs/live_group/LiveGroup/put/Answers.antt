use Rattle.std.proofs.Common.{◌∙◌}
use Rattle.df_group.proofs.live_group.LiveGroup.put.Goals as goal

pub returns-clause-over : goal.returns-clause-over
returns-clause-over c t leads = record { at = λ k. c.put_all.ensures k ∙ leads.at k }
