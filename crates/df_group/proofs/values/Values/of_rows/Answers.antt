use Rattle.std.proofs.Common.{subst, sym}
use Rattle.df_counts.specs.Counts.{AreCounts}
use Rattle.df_group.proofs.ValueCounts.{counts_are}
use Rattle.df_group.proofs.values.Values.of_rows.Goals as goal

pub returns-clause-counts : goal.returns-clause-counts
returns-clause-counts c = subst (λ counts. AreCounts counts c.args.index c.args.rows.now) (sym c.in_ok-counts.ensures) (counts_are c.args.index c.args.rows.now)
