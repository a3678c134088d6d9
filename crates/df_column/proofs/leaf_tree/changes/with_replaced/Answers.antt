use Rattle.std.proofs.Common.{arith}
use Rattle.df_column.proofs.leaf_tree.changes.with_replaced.Goals as goal

pub overflow_add-at : goal.overflow_add-at
overflow_add-at c = omega (arith, c.requires, c.len.ensures, c.len.type_inv)
