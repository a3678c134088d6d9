use Rattle.std.proofs.Common.{◌≡◌, drop}
use Rattle.df_plan.specs.ItemChecks.{columns_after}
use Rattle.df_plan.proofs.items.check_each.Given as goal

abbrev pub invariant-loop-item : goal.invariant-loop-item
invariant-loop-item g l =
    columns_after (g.N.ColumnOf.column_of l.input) l.fn.out l.items
    ≡ columns_after (g.N.ColumnOf.column_of l.input) l.out.items (drop l.item-index l.items)
