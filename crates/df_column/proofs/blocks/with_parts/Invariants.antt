use Rattle.std.proofs.Common.{◌≤◌, ◌-◌, map, length, take}
use Rattle.df_column.specs.BlockRows.{AddsRows}
use Rattle.df_column.specs.Columns.{column_cells, dtype_of_column}
use Rattle.df_column.specs.Rows.{picked_rows}
use Rattle.df_column.proofs.blocks.with_parts.Given as goal

abbrev pub invariant-loop-from : goal.invariant-loop-from
invariant-loop-from l =
    record {
      within : l.from ≤ length l.picks;
      adds : AddsRows (map dtype_of_column l.columns) (picked_rows (map column_cells l.columns) (take l.from l.picks)) l.fn.out l.made;
    }

abbrev pub decreases-loop-from : goal.decreases-loop-from
decreases-loop-from l = length l.picks - l.from
