use Rattle.std.proofs.Common.{◌∙◌, ◌≤◌, ◌<◌, ◌-◌, ◌^◌, ap, arith, length, length-append, subst, sym, take}
use Rattle.df_tree.specs.Leaves.{items_in}
use Rattle.df_column.specs.BlockLists.{blocks_of_leaves, rows_in}
use Rattle.df_column.specs.LeafTrees.{AreFull}
use Rattle.df_column.proofs.LeafTreeLemmas.{exact_before, leaf_at, more_blocks, run_in_leaf, some_leaves}
use Rattle.df_column.specs.BlockLists.{IsRunAt}
use Rattle.df_column.proofs.leaf_tree.LeafTree.run_at.Goals as goal

pub get-requires : goal.get-requires
get-requires c =
    let mine = some_leaves c.self.inside.leaves c.in-Some.leaves c.args.self.now c.in-Some.is c.self.view_is in
    let ls = items_in c.in-Some.leaves in
    let full = subst AreFull (sym mine) (subst AreFull c.self.view_is c.self.invariant) in
    let same = ap (λ ls. rows_in (blocks_of_leaves ls)) mine in
    let few : rows_in (blocks_of_leaves ls) ≤ 2 ^ 60 = omega (arith, same, c.requires.few) in
    let n = c.found_before-found.result.count in
    let x = exact_before ls n c.found_before-found.result.sum full few c.found_before-found.ensures.before_is in
    let p = more_blocks ls n c.args.at c.found_before-found.result.sum full few c.found_before-found.ensures in
    let all = ap (λ ls. length (blocks_of_leaves ls)) mine in
    p.reached (omega (arith, all, c.requires.at))

pub overflow_sub-result : goal.overflow_sub-result
overflow_sub-result c =
    let mine = some_leaves c.self.inside.leaves c.in-Some.leaves c.args.self.now c.in-Some.is c.self.view_is in
    let ls = items_in c.in-Some.leaves in
    let full = subst AreFull (sym mine) (subst AreFull c.self.view_is c.self.invariant) in
    let same = ap (λ ls. rows_in (blocks_of_leaves ls)) mine in
    let few : rows_in (blocks_of_leaves ls) ≤ 2 ^ 60 = omega (arith, same, c.requires.few) in
    let n = c.found_before-found.result.count in
    let x = exact_before ls n c.found_before-found.result.sum full few c.found_before-found.ensures.before_is in
    let p = more_blocks ls n c.args.at c.found_before-found.result.sum full few c.found_before-found.ensures in
    omega (arith, p.not_yet, x.blocks)

pub returns : goal.returns
returns c =
    let mine = some_leaves c.self.inside.leaves c.in-Some.leaves c.args.self.now c.in-Some.is c.self.view_is in
    let ls = items_in c.in-Some.leaves in
    let full = subst AreFull (sym mine) (subst AreFull c.self.view_is c.self.invariant) in
    let same = ap (λ ls. rows_in (blocks_of_leaves ls)) mine in
    let few : rows_in (blocks_of_leaves ls) ≤ 2 ^ 60 = omega (arith, same, c.requires.few) in
    let n = c.found_before-found.result.count in
    let x = exact_before ls n c.found_before-found.result.sum full few c.found_before-found.ensures.before_is in
    let p = more_blocks ls n c.args.at c.found_before-found.result.sum full few c.found_before-found.ensures in
    let all = ap (λ ls. length (blocks_of_leaves ls)) mine in
    let lt : n < length ls = p.reached (omega (arith, all, c.requires.at)) in
    let leaf = leaf_at ls n c.get.result.now lt c.get.ensures in
    let next = ap length leaf.next ∙ length-append (blocks_of_leaves (take n ls)) c.get.result.now in
    let now = p.now lt in
    let place = c.args.at - c.found_before-found.result.sum.blocks in
    subst (λ run. IsRunAt (blocks_of_leaves c.args.self.now) c.args.at run place) (sym c.run.ensures)
    (subst (λ ls. IsRunAt (blocks_of_leaves ls) c.args.at c.get.result.now place) mine
    (run_in_leaf ls n c.args.at place c.get.result.now leaf (omega (arith, p.not_yet, x.blocks)) (omega (arith, next, now, p.not_yet, x.blocks))))
