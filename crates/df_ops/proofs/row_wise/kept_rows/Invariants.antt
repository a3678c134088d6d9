use Rattle.std.proofs.Common.{◌≡◌, take}
use Rattle.df_expr.specs.Physical.{IsPhysical}
use Rattle.df_ops.specs.RowWise.{filter_rows}
use Rattle.df_ops.proofs.row_wise.kept_rows.Given as goal

abbrev pub invariant-loop-row : goal.invariant-loop-row
invariant-loop-row l = record {
  kept : l.kept.items ≡ filter_rows l.columns l.predicate (take l.row-index l.rows);
  physical : IsPhysical l.predicate l.columns l.physical;
  counted : l.meter.evals ≡ l.row-index;
}
