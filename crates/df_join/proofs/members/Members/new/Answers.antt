use Rattle.df_join.proofs.Staging.{none_indexed}
use Rattle.df_join.proofs.members.Members.new.Goals as goal

pub returns-clause-over : goal.returns-clause-over
returns-clause-over c indices = none_indexed indices _ c.in_ok-new.ensures.rows c.new-2.ensures
