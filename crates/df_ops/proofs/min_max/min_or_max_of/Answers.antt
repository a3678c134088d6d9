use Rattle.std.proofs.Common.{◌∙◌}
use Rattle.df_ops.specs.Aggregates.{cells_of}
use Rattle.df_ops.proofs.MinMaxFacts.{min_or_max_after_is}
use Rattle.df_ops.proofs.min_max.min_or_max_of.Goals as goal

pub returns : goal.returns
returns c = c.min_or_max_so_far.ensures ∙ min_or_max_after_is c.args.min_max (cells_of c.args.index c.args.rows.now)
