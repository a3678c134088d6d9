use Rattle.std.proofs.Common.{◌≡◌, ◌++◌, ◌≤◌, drop, map}
use Rattle.std.specs.FinMap as finite
use Rattle.df_column.specs.Tables.{entry_change}
use Rattle.df_session.specs.ViewChanges.{going_lines}
use Rattle.df_session.proofs.view_changes.push_going.Given as goal

-- the lines of the entries from here on end the whole
abbrev pub invariant-loop-entry : goal.invariant-loop-entry
invariant-loop-entry l =
    (l.out.items ++ going_lines (finite.entries l.table.rows) l.gone l.come (map entry_change (drop l.entry-index l.entries))
    ≡ l.fn.out.items ++ going_lines (finite.entries l.table.rows) 0 0 (map entry_change l.entries))
    × (l.gone ≤ l.entry-index) × (l.come ≤ l.entry-index)
