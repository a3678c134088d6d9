use Rattle.std.proofs.Common.{take}
use Rattle.df_ops.specs.RowWise.{ArePhysical}
use Rattle.df_ops.proofs.row_wise.physical_items.Given as goal

abbrev pub invariant-loop-item : goal.invariant-loop-item
invariant-loop-item l = ArePhysical l.columns (take l.item-index l.items) l.made.items
