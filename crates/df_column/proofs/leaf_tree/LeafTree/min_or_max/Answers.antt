use Rattle.std.proofs.Common.{◌∙◌, ◌+◌, ap, arith, sym, take}
use Rattle.df_tree.specs.Leaves.{items_in}
use Rattle.df_column.specs.BlockLists.{blocks_of_leaves, min_or_max_cell}
use Rattle.df_column.specs.MinMaxCells.{min_or_max_with}
use Rattle.df_column.proofs.MinMaxLemmas.{min_or_max_with_none}
use Rattle.df_column.proofs.LeafMinMax.{min_or_max_of_two}
use Rattle.df_column.proofs.LeafTreeLemmas.{leaf_at, some_leaves}
use Rattle.df_column.proofs.ListParts.{all_taken}
use Rattle.df_column.proofs.leaf_tree.LeafTree.min_or_max.Goals as goal

pub loop-at-init : goal.loop-at-init
loop-at-init c = sym (min_or_max_with_none c.args.which c.args.best)

pub loop-at-preserved : goal.loop-at-preserved
loop-at-preserved c =
    let ls = items_in c.in-Some.leaves in
    let leaf = leaf_at ls c.loop-at.at c.get.result.now (omega (arith, c.loop-at-test.true, c.len-at-end.ensures)) c.get.ensures in
    min_or_max_of_two c.args.which (blocks_of_leaves (take (c.loop-at.at + 1) ls)) (blocks_of_leaves (take c.loop-at.at ls)) c.get.result.now c.args.index c.args.best c.loop-at.out c.in_ok-out.out leaf.next c.loop-at.invariant
    (c.in_ok-out.ensures ∙ ap (λ bs. min_or_max_with c.args.which c.loop-at.out (min_or_max_cell c.args.which bs c.args.index)) c.leaf.ensures)

pub returns : goal.returns
returns c =
    let mine = some_leaves c.self.inside.leaves c.in-Some.leaves c.args.self.now c.in-Some.is c.self.view_is in
    let all = all_taken (items_in c.in-Some.leaves) c.loop-at.at (omega (arith, c.loop-at-test.false, c.len-at-end.ensures)) in
    c.loop-at.invariant ∙ ap (λ ls. min_or_max_with c.args.which c.args.best (min_or_max_cell c.args.which (blocks_of_leaves ls) c.args.index)) (all ∙ mine)
