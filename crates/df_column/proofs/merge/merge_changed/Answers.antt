use Rattle.std.proofs.Common.{arith}
use Rattle.df_column.proofs.MergeLemmas.{change_end}
use Rattle.df_column.proofs.merge.merge_changed.Goals as goal

pub returns-clause-rows : goal.returns-clause-rows
returns-clause-rows c = λ columns.
    change_end columns c.args.tags.now c.loop-entry.picks.items c.rows_before-low.result c.loop-entry.high c.loop-entry.entry-index c.args.entries.now (omega arith) (c.loop-entry.invariant.rows columns)

pub loop-entry-smaller : goal.loop-entry-smaller
loop-entry-smaller c = omega arith

pub merge_entry-requires-clause-at : goal.merge_entry-requires-clause-at
merge_entry-requires-clause-at c = omega arith

pub bounds-entries-entry-index : goal.bounds-entries-entry-index
bounds-entries-entry-index c = omega arith

pub offset_bounds-entries-entry-index : goal.offset_bounds-entries-entry-index
offset_bounds-entries-entry-index c = omega arith

pub returns-clause-ordered : goal.returns-clause-ordered
returns-clause-ordered c = omega arith

pub returns-clause-in_range : goal.returns-clause-in_range
returns-clause-in_range c = omega arith
