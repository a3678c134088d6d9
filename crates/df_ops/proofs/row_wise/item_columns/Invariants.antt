use Rattle.std.proofs.Common.{◌≡◌, take, map}
use Rattle.df_ops.specs.RowWise.{item_column}
use Rattle.df_ops.proofs.row_wise.item_columns.Given as goal

abbrev pub invariant-loop-item : goal.invariant-loop-item
invariant-loop-item l = l.out.items ≡ map (item_column l.columns) (take l.item-index l.items)
