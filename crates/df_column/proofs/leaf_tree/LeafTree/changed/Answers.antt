use Rattle.std.proofs.Common.{length, map, refl}
use Rattle.df_column.specs.Columns.{dtype_of_column}
use Rattle.df_column.proofs.ChangedLeaves.{none_yet}
use Rattle.df_column.proofs.leaf_tree.LeafTree.changed.Goals as goal

pub loop-changed-init : goal.loop-changed-init
loop-changed-init c = none_yet (map dtype_of_column c.args.columns.now) c.args.self.now c.in_ok-share.field-0 c.args.entries.now c.len.result (length c.args.entries.now) c.in_ok-share.ensures c.len.ensures refl

pub with_one_changed-requires-clause-changed : goal.with_one_changed-requires-clause-changed
with_one_changed-requires-clause-changed c = c.loop-changed.invariant
