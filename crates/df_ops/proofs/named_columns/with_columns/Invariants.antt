use Rattle.std.proofs.Common.{◌≡◌, ◌++◌, take, map, filter, not}
use Rattle.df_ops.specs.NamedColumns.{has_column, added_or_own}
use Rattle.df_ops.proofs.named_columns.with_columns.Given as goal

abbrev pub invariant-loop-item : goal.invariant-loop-item
invariant-loop-item g l =
    l.out.items ≡ map (added_or_own l.added) l.own ++ filter (λ a. not (has_column a.0 l.own)) (take l.item-index l.added)
