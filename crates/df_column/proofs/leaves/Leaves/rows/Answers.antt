use Rattle.std.proofs.Common.{◌∙◌, ap, arith}
use Rattle.df_column.specs.BlockLists.{blocks_of_leaves, rows_in}
use Rattle.df_column.proofs.LeafTreeLemmas.{exact, full_rows}
use Rattle.df_column.proofs.leaves.Leaves.rows.Goals as goal

pub returns-clause-value : goal.returns-clause-value
returns-clause-value c = (exact (blocks_of_leaves c.self.inside.tree) c.totals.result c.totals.ensures.totals (full_rows (c.self.inside.tree) c.totals.ensures.full) c.self.invariant).rows ∙ ap rows_in c.self.view_is

pub returns-clause-few : goal.returns-clause-few
returns-clause-few c =
    let x = exact (blocks_of_leaves c.self.inside.tree) c.totals.result c.totals.ensures.totals (full_rows (c.self.inside.tree) c.totals.ensures.full) c.self.invariant in
    omega (arith, x.rows, c.self.invariant)
