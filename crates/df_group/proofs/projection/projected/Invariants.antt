use Rattle.std.proofs.Common.{◌≡◌, ◌++◌, map, drop}
use Rattle.df_column.specs.Tables.{entry_change}
use Rattle.df_group.specs.Projections.{projected_changes}
use Rattle.df_group.proofs.projection.projected.Given as goal

abbrev pub invariant-loop-entry : goal.invariant-loop-entry
invariant-loop-entry l =
    map entry_change l.projected.items ++ projected_changes l.indices (map entry_change (drop l.entry-index l.entries))
    ≡ projected_changes l.indices (map entry_change l.entries)
