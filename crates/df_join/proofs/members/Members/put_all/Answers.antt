use Rattle.std.proofs.Common.{◌∙◌}
use Rattle.df_join.proofs.members.Members.put_all.Goals as goal

pub returns-clause-over : goal.returns-clause-over
returns-clause-over c indices t leads = record { empty = leads.empty; at = λ k. c.put_all.ensures k ∙ leads.at k }
