use Rattle.std.proofs.Common.{◌≡◌, take, map}
use Rattle.df_expr.specs.Meters.{with_evals}
use Rattle.df_expr.specs.Physical.{physical_value}
use Rattle.df_ops.proofs.row_wise.item_values.Given as goal

abbrev pub invariant-loop-item : goal.invariant-loop-item
invariant-loop-item l = record {
  cells : l.cells.items ≡ map (λ p. physical_value p l.row) (take l.item-index l.items);
  counted : l.meter ≡ with_evals l.item-index l.fn.meter;
}
