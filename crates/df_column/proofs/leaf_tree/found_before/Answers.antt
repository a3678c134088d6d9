use Rattle.df_tree.specs.Leaves.{items_in}
use Rattle.df_column.proofs.LeafTreeLemmas.{found_first, found_none}
use Rattle.df_column.proofs.leaf_tree.found_before.Goals as goal

pub returns-in-Some : goal.returns-in-Some
returns-in-Some g c = found_first (g.T.Test.passes c.args.test.now) (items_in c.args.leaves.now) c.in-Some.found.count c.in-Some.found.sum c.in-Some.ensures

pub returns-in-None : goal.returns-in-None
returns-in-None g c = found_none (g.T.Test.passes c.args.test.now) (items_in c.args.leaves.now) c.len.result c.measure.result c.len.ensures c.measure.ensures c.in-None.ensures
