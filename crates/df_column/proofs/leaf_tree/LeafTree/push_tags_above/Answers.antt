use Rattle.std.proofs.Common.{◌≡◌, ◌∙◌, ◌++◌, ◌+◌, Some, ap, append-nil, arith, subst, sym, take}
use Rattle.df_tree.specs.Leaves.{items_in}
use Rattle.df_column.specs.BlockLists.{blocks_of_leaves}
use Rattle.df_column.specs.Blocks.{rows_of_blocks}
use Rattle.df_column.specs.MinMaxCells.{tags_above}
use Rattle.df_column.proofs.LeafTreeLemmas.{leaf_at, some_leaves}
use Rattle.df_column.proofs.ListParts.{all_taken}
use Rattle.df_column.proofs.SharedLemmas.{rows_append}
use Rattle.df_column.proofs.SkippingLemmas.{tags_more}
use Rattle.df_column.proofs.leaf_tree.LeafTree.push_tags_above.Goals as goal

pub loop-at-init : goal.loop-at-init
loop-at-init c = sym (append-nil c.args.tags.now.items)

pub loop-at-preserved : goal.loop-at-preserved
loop-at-preserved c =
    let ls = items_in c.in-Some.leaves in
    let leaf = leaf_at ls c.loop-at.at c.get.result.now (omega (arith, c.loop-at-test.true, c.len-at-end.ensures)) c.get.ensures in
    let own = subst (λ bs. c.push_tags_in_leaf.new.tags.items ≡ c.loop-at.tags.items ++ tags_above (Some c.args.index) c.args.value.now (rows_of_blocks bs)) c.leaf.ensures c.in_ok-push_tags_in_leaf.ensures in
    tags_more (Some c.args.index) c.args.value.now (rows_of_blocks (blocks_of_leaves (take c.loop-at.at ls))) (rows_of_blocks c.get.result.now) (rows_of_blocks (blocks_of_leaves (take (c.loop-at.at + 1) ls))) c.args.tags.now.items c.loop-at.tags.items c.push_tags_in_leaf.new.tags.items
    (ap rows_of_blocks leaf.next ∙ rows_append (blocks_of_leaves (take c.loop-at.at ls)) c.get.result.now) c.loop-at.invariant own

pub returns : goal.returns
returns c =
    let mine = some_leaves c.self.inside.leaves c.in-Some.leaves c.args.self.now c.in-Some.is c.self.view_is in
    let all = all_taken (items_in c.in-Some.leaves) c.loop-at.at (omega (arith, c.loop-at-test.false, c.len-at-end.ensures)) in
    c.loop-at.invariant ∙ ap (λ ls. c.args.tags.now.items ++ tags_above (Some c.args.index) c.args.value.now (rows_of_blocks (blocks_of_leaves ls))) (all ∙ mine)
