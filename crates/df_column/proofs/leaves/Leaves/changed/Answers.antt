use Rattle.std.proofs.Common.{ap, arith, map}
use Rattle.df_column.specs.BlockLists.{blocks_of_leaves, rows_in}
use Rattle.df_column.specs.Columns.{dtype_of_column}
use Rattle.df_column.proofs.ChangedNodes.{few_changed}
use Rattle.df_column.proofs.leaves.Leaves.changed.Goals as goal

pub invariant_of-result : goal.invariant_of-result
invariant_of-result c =
    let own = ap rows_in c.self.view_is in
    few_changed (map dtype_of_column c.args.columns.now) (blocks_of_leaves c.self.inside.tree) (blocks_of_leaves c.in_ok-tree.tree) c.args.entries.now c.in_ok-tree.from c.in_ok-tree.ensures
    (omega (arith, own, c.rows.ensures.value, c.in_ok-end_behind.ensures.value, c.in_ok-end_behind.ensures.few))
