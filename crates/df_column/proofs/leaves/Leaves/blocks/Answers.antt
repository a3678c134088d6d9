use Rattle.std.proofs.Common.{◌∙◌, ap, arith, length, subst}
use Rattle.df_column.specs.BlockLists.{HaveRows, blocks_of_leaves}
use Rattle.df_column.proofs.LeafTreeLemmas.{exact, full_rows}
use Rattle.df_column.proofs.leaves.Leaves.blocks.Goals as goal

pub returns-clause-value : goal.returns-clause-value
returns-clause-value c = (exact (blocks_of_leaves c.self.inside.tree) c.totals.result c.totals.ensures.totals (full_rows (c.self.inside.tree) c.totals.ensures.full) c.self.invariant).blocks ∙ ap length c.self.view_is

pub returns-clause-few : goal.returns-clause-few
returns-clause-few c =
    let x = exact (blocks_of_leaves c.self.inside.tree) c.totals.result c.totals.ensures.totals (full_rows (c.self.inside.tree) c.totals.ensures.full) c.self.invariant in
    omega (arith, x.blocks, x.few)

pub returns-clause-some : goal.returns-clause-some
returns-clause-some c = subst HaveRows c.self.view_is (full_rows (c.self.inside.tree) c.totals.ensures.full)
