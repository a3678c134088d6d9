use Rattle.std.proofs.Common.{subst}
use Rattle.df_column.specs.BlockLists.{HaveRows}
use Rattle.df_column.proofs.run.Run.len.Goals as goal

pub returns-clause-some : goal.returns-clause-some
returns-clause-some c = subst HaveRows c.self.view_is c.self.invariant.some
