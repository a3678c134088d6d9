use Rattle.std.proofs.Common.{◌≡◌, take, map}
use Rattle.df_state.specs.Pictures.{rows_in}
use Rattle.df_state.proofs.picture.rows_of_tables.Given as goal

abbrev pub invariant-loop-table : goal.invariant-loop-table
invariant-loop-table l = l.rows.items ≡ map rows_in (take l.table-index l.tables)
