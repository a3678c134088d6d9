use Rattle.std.proofs.Common.{◌≡◌, take, map}
use Rattle.df_ops.specs.NamedColumns.{added_or_own}
use Rattle.df_ops.proofs.named_columns.all_replaced.Given as goal

abbrev pub invariant-loop-item : goal.invariant-loop-item
invariant-loop-item g l = l.out.items ≡ map (added_or_own l.added) (take l.item-index l.own)
