use Rattle.std.proofs.Common.{◌∙◌, ap, length, subst}
use Rattle.df_column.specs.BlockLists.{HaveRows, last_of}
use Rattle.df_column.specs.Blocks.{rows_of_blocks}
use Rattle.df_column.proofs.LeafEnds.{rows_there}
use Rattle.df_column.proofs.run.Run.rows.Goals as goal

pub returns-clause-value : goal.returns-clause-value
returns-clause-value c =
    c.last_end.ensures ∙ ap last_of c.deref.ensures.value ∙ rows_there _ _ c.self.invariant.ends_are ∙ ap (λ bs. length (rows_of_blocks bs)) c.self.view_is

pub returns-clause-some : goal.returns-clause-some
returns-clause-some c = subst HaveRows c.self.view_is c.self.invariant.some
