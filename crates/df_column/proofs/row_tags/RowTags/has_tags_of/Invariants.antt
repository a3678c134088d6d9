use Rattle.df_column.specs.RowRuns.{AreThose}
use Rattle.df_column.proofs.row_tags.RowTags.has_tags_of.Given as goal

abbrev pub invariant-loop-k : goal.invariant-loop-k
invariant-loop-k l = AreThose l.self l.at l.other l.from l.k
