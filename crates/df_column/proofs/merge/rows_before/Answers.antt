use Rattle.df_column.proofs.MergeLemmas.{before_first}
use Rattle.df_column.proofs.merge.rows_before.Goals as goal

pub returns-in-Some-clause-rows : goal.returns-in-Some-clause-rows
returns-in-Some-clause-rows c = λ columns.
    before_first c.args.tags.now columns c.args.entries.now c.in-Some.entry.now c.count_below.result c.requires.tags c.requires.entries c.in-Some.ensures.value c.count_below.ensures.count
