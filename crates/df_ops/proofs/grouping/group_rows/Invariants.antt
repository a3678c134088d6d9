use Rattle.std.proofs.Common.{◌≡◌, take, map}
use Rattle.df_ops.specs.Tables.{group_row}
use Rattle.df_ops.proofs.grouping.group_rows.Given as goal

abbrev pub invariant-loop-key : goal.invariant-loop-key
invariant-loop-key l =
    l.rows.items ≡ map (group_row l.table.columns l.indices l.aggs l.table.rows) (take l.key-index l.found)
