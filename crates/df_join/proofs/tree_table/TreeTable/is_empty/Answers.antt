use Rattle.std.proofs.Common.{ap, ◌∙◌}
use Rattle.std.specs.Prelude.{◌==◌}
use Rattle.df_column.specs.Tables.{TableParts}
use Rattle.df_tree.specs.Leaves.{items_in}
use Rattle.df_join.proofs.Places.{length_is}
use Rattle.df_join.proofs.tree_table.TreeTable.is_empty.Goals as goal

pub returns : goal.returns
returns c = ap (λ n. n == 0) (c.len.ensures ∙ length_is (items_in c.self.inside.rows) c.args.self.now.rows c.self.invariant (ap (λ (t : TableParts). t.rows) c.self.view_is))
