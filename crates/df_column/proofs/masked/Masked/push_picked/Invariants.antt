use Rattle.std.proofs.Common.{◌≡◌, ◌≤◌, ◌-◌, ◌++◌, map, take, length}
use Rattle.df_column.specs.Picks.{picked_cells}
use Rattle.df_column.proofs.masked.Masked.push_picked.Given as goal

abbrev pub invariant-loop-from : goal.invariant-loop-from
invariant-loop-from g l =
    record {
      within : l.from ≤ length l.picks;
      cells : map g.T.CellValue.cell_of l.self ≡ map g.T.CellValue.cell_of l.initial.self ++ picked_cells (map g.T.CellValue.cell_of l.old) l.column (take l.from l.picks);
    }

abbrev pub decreases-loop-from : goal.decreases-loop-from
decreases-loop-from g l = length l.picks - l.from
