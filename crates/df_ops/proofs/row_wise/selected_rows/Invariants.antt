use Rattle.std.proofs.Common.{◌≡◌, ◌*◌, length, take, map}
use Rattle.df_ops.specs.RowWise.{select_row}
use Rattle.df_ops.proofs.row_wise.selected_rows.Given as goal

abbrev pub invariant-loop-row : goal.invariant-loop-row
invariant-loop-row l = record {
  selected : l.selected.items ≡ map (select_row l.columns l.items) (take l.row-index l.rows);
  counted : l.meter.evals ≡ l.row-index * length l.physical.items;
}
