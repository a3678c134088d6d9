use Rattle.std.proofs.Common.{arith}
use Rattle.df_column.proofs.MergeLemmas.{merge_end}
use Rattle.df_column.proofs.merge.merge.Goals as goal

pub returns-clause-rows : goal.returns-clause-rows
returns-clause-rows c = λ columns.
    merge_end columns c.args.tags.now c.loop-entry.picks.items _ c.loop-entry.at c.loop-entry.entry-index c.args.entries.now c.loop-entry.invariant.at (omega arith)
    (c.loop-entry.invariant.rows columns) (rw c.len-2.ensures at (c.in_ok-push_old.ensures.rows columns))

pub loop-entry-smaller : goal.loop-entry-smaller
loop-entry-smaller c = omega arith

pub push_old-requires-clause-within : goal.push_old-requires-clause-within
push_old-requires-clause-within c = omega arith

pub push_old-requires-clause-ordered : goal.push_old-requires-clause-ordered
push_old-requires-clause-ordered c = omega arith

pub merge_entry-requires-clause-at : goal.merge_entry-requires-clause-at
merge_entry-requires-clause-at c = omega arith

pub bounds-entries-entry-index : goal.bounds-entries-entry-index
bounds-entries-entry-index c = omega arith

pub offset_bounds-entries-entry-index : goal.offset_bounds-entries-entry-index
offset_bounds-entries-entry-index c = omega arith
