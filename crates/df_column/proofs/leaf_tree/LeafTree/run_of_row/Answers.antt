use Rattle.std.proofs.Common.{◌∙◌, ◌≤◌, ◌<◌, ◌^◌, ap, arith, length, subst, sym, take}
use Rattle.df_tree.specs.Leaves.{items_in}
use Rattle.df_column.specs.BlockLists.{blocks_of_leaves, rows_in}
use Rattle.df_column.specs.LeafTrees.{AreFull}
use Rattle.df_column.proofs.LeafTreeLemmas.{exact_before, full_rows, leaf_at, more_rows, row_in_leaf, some_leaves}
use Rattle.df_column.specs.LeafTotals.{IsRunOfRow}
use Rattle.df_column.proofs.BlockListLemmas.{rows_both}
use Rattle.df_column.proofs.leaf_tree.LeafTree.run_of_row.Goals as goal

pub get-requires : goal.get-requires
get-requires c =
    let mine = some_leaves c.self.inside.leaves c.in-Some.leaves c.args.self.now c.in-Some.is c.self.view_is in
    let ls = items_in c.in-Some.leaves in
    let full = subst AreFull (sym mine) (subst AreFull c.self.view_is c.self.invariant) in
    let same = ap (λ ls. rows_in (blocks_of_leaves ls)) mine in
    let few : rows_in (blocks_of_leaves ls) ≤ 2 ^ 60 = omega (arith, same, c.requires.few) in
    let n = c.found_before-found.result.count in
    let x = exact_before ls n c.found_before-found.result.sum full few c.found_before-found.ensures.before_is in
    let p = more_rows ls n c.args.row c.found_before-found.result.sum full few c.found_before-found.ensures in
    p.reached (omega (arith, same, c.requires.row))

pub returns-clause-run : goal.returns-clause-run
returns-clause-run c =
    let mine = some_leaves c.self.inside.leaves c.in-Some.leaves c.args.self.now c.in-Some.is c.self.view_is in
    let ls = items_in c.in-Some.leaves in
    let full = subst AreFull (sym mine) (subst AreFull c.self.view_is c.self.invariant) in
    let same = ap (λ ls. rows_in (blocks_of_leaves ls)) mine in
    let few : rows_in (blocks_of_leaves ls) ≤ 2 ^ 60 = omega (arith, same, c.requires.few) in
    let n = c.found_before-found.result.count in
    let x = exact_before ls n c.found_before-found.result.sum full few c.found_before-found.ensures.before_is in
    let p = more_rows ls n c.args.row c.found_before-found.result.sum full few c.found_before-found.ensures in
    let lt : n < length ls = p.reached (omega (arith, same, c.requires.row)) in
    let leaf = leaf_at ls n c.get.result.now lt c.get.ensures in
    let next = ap rows_in leaf.next ∙ rows_both (blocks_of_leaves (take n ls)) c.get.result.now in
    let now = p.now lt in
    subst (λ run. IsRunOfRow (blocks_of_leaves c.args.self.now) c.args.row run c.found_before-found.result.sum) (sym c.run.ensures)
    (subst (λ ls. IsRunOfRow (blocks_of_leaves ls) c.args.row c.get.result.now c.found_before-found.result.sum) mine
    (row_in_leaf ls n c.args.row c.get.result.now c.found_before-found.result.sum leaf x p.not_yet (omega (arith, next, now))))

pub returns-clause-some : goal.returns-clause-some
returns-clause-some c = full_rows c.args.self.now (subst AreFull c.self.view_is c.self.invariant)
