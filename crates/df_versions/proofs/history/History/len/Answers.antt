use Rattle.df_versions.proofs.Histories.{history-legal}
use Rattle.df_versions.proofs.history.History.len.Goals as goal

pub returns-clause-legal : goal.returns-clause-legal
returns-clause-legal c = rw (← c.self.view_is) (history-legal c.self.inside.seen.log c.self.invariant.1)
