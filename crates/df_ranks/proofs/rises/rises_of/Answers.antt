use Rattle.df_ranks.proofs.RiseSteps.{rises_more}
use Rattle.df_ranks.proofs.rises.rises_of.Goals as goal

pub loop-entry-preserved : goal.loop-entry-preserved
loop-entry-preserved c =
    rises_more c.args.index c.args.entries.now c.loop-entry.entry-index c.entry-item.result c.loop-entry.rises c.raise_at.new.rises c.raise_at-in-loop-entry.new.rises
    c.loop-entry-test.true c.entry-item.is c.loop-entry.invariant c.in_ok-raise_at.ensures c.in_ok-raise_at-2.ensures
