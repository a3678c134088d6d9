use Rattle.std.proofs.Common.{◌∙◌, ◌≤◌, ◌^◌, ap, arith, length, subst, sym, take}
use Rattle.df_tree.specs.Leaves.{items_in}
use Rattle.df_column.specs.BlockLists.{blocks_of_leaves, rows_in}
use Rattle.df_column.specs.LeafTrees.{AreFull}
use Rattle.df_column.proofs.LeafTreeLemmas.{exact_before, first_blocks, front_blocks, full_take, more_blocks, some_leaves}
use Rattle.df_column.proofs.leaf_tree.LeafTree.first.Goals as goal

pub invariant_of-result : goal.invariant_of-result
invariant_of-result c =
    let mine = some_leaves c.self.inside.leaves c.in-Some.leaves c.args.self.now c.in-Some.is c.self.view_is in
    let full = subst AreFull (sym mine) (subst AreFull c.self.view_is c.self.invariant) in
    subst AreFull (sym c.in_ok-first.ensures) (full_take c.found_before-found.result.count (items_in c.in-Some.leaves) full)

pub returns-clause-blocks : goal.returns-clause-blocks
returns-clause-blocks c =
    let mine = some_leaves c.self.inside.leaves c.in-Some.leaves c.args.self.now c.in-Some.is c.self.view_is in
    let ls = items_in c.in-Some.leaves in
    let full = subst AreFull (sym mine) (subst AreFull c.self.view_is c.self.invariant) in
    let same = ap (λ ls. rows_in (blocks_of_leaves ls)) mine in
    let few : rows_in (blocks_of_leaves ls) ≤ 2 ^ 60 = omega (arith, same, c.requires) in
    let n = c.found_before-found.result.count in
    let x = exact_before ls n c.found_before-found.result.sum full few c.found_before-found.ensures.before_is in
    ap blocks_of_leaves c.in_ok-first.ensures ∙ first_blocks n ls c.found_before-found.result.sum.blocks x.blocks ∙ ap (λ ls. take c.found_before-found.result.sum.blocks (blocks_of_leaves ls)) mine

pub returns-clause-within : goal.returns-clause-within
returns-clause-within c =
    let mine = some_leaves c.self.inside.leaves c.in-Some.leaves c.args.self.now c.in-Some.is c.self.view_is in
    let ls = items_in c.in-Some.leaves in
    let full = subst AreFull (sym mine) (subst AreFull c.self.view_is c.self.invariant) in
    let same = ap (λ ls. rows_in (blocks_of_leaves ls)) mine in
    let few : rows_in (blocks_of_leaves ls) ≤ 2 ^ 60 = omega (arith, same, c.requires) in
    let n = c.found_before-found.result.count in
    let x = exact_before ls n c.found_before-found.result.sum full few c.found_before-found.ensures.before_is in
    let all = ap (λ ls. length (blocks_of_leaves ls)) mine in
    let less = front_blocks n ls in
    omega (arith, all, less, x.blocks)

pub returns-clause-most : goal.returns-clause-most
returns-clause-most c =
    let mine = some_leaves c.self.inside.leaves c.in-Some.leaves c.args.self.now c.in-Some.is c.self.view_is in
    let ls = items_in c.in-Some.leaves in
    let full = subst AreFull (sym mine) (subst AreFull c.self.view_is c.self.invariant) in
    let same = ap (λ ls. rows_in (blocks_of_leaves ls)) mine in
    let few : rows_in (blocks_of_leaves ls) ≤ 2 ^ 60 = omega (arith, same, c.requires) in
    let n = c.found_before-found.result.count in
    let x = exact_before ls n c.found_before-found.result.sum full few c.found_before-found.ensures.before_is in
    let p = more_blocks ls n c.args.most c.found_before-found.result.sum full few c.found_before-found.ensures in
    omega (arith, p.not_yet, x.blocks)
