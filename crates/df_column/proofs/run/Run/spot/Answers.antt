use Rattle.std.proofs.Common.{◌∙◌, ap, subst}
use Rattle.df_column.specs.BlockLists.{HaveRows}
use Rattle.df_column.specs.Blocks.{ends_of}
use Rattle.df_column.proofs.SpotLemmas.{ends_rise}
use Rattle.df_column.proofs.run.Run.spot.Goals as goal

pub ends_up_to-block-requires : goal.ends_up_to-block-requires
ends_up_to-block-requires c = ends_rise c.args.self.now c.deref.result.now (c.deref.ensures.value ∙ c.self.invariant.ends_are ∙ ap (ends_of 0) c.self.view_is)

pub returns-clause-some : goal.returns-clause-some
returns-clause-some c = subst HaveRows c.self.view_is c.self.invariant.some
