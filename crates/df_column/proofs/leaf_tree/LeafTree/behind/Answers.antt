use Rattle.std.proofs.Common.{◌≡◌, ◌∙◌, ◌≤◌, ◌<◌, ◌+◌, ◌-◌, ◌^◌, ap, arith, drop, length, length-append, subst, sym, take}
use Rattle.df_tree.specs.Leaves.{items_in}
use Rattle.df_column.specs.BlockLists.{blocks_of_leaves, rows_in}
use Rattle.df_column.specs.LeafTrees.{AreFull}
use Rattle.df_column.proofs.LeafTreeLemmas.{exact_before, few_leaves, few_length, front_blocks, full_drop, last_blocks, leaf_at, more_blocks, some_leaves}
use Rattle.df_column.proofs.leaf_tree.LeafTree.behind.Goals as goal

pub get-requires : goal.get-requires
get-requires c =
    let mine = some_leaves c.self.inside.leaves c.in-Some.leaves c.args.self.now c.in-Some.is c.self.view_is in
    let ls = items_in c.in-Some.leaves in
    let full = subst AreFull (sym mine) (subst AreFull c.self.view_is c.self.invariant) in
    let same = ap (λ ls. rows_in (blocks_of_leaves ls)) mine in
    let few : rows_in (blocks_of_leaves ls) ≤ 2 ^ 60 = omega (arith, same, c.requires.few) in
    let n = c.found_before-found.result.count in
    let x = exact_before ls n c.found_before-found.result.sum full few c.found_before-found.ensures.before_is in
    let p = more_blocks ls n (c.args.least - 1) c.found_before-found.result.sum full few c.found_before-found.ensures in
    let all = ap (λ ls. length (blocks_of_leaves ls)) mine in
    let lt : n < length ls = p.reached (omega (arith, all, c.requires.in_range, c.if-least-eq0.false)) in
    lt

pub overflow_add-end : goal.overflow_add-end
overflow_add-end c =
    let mine = some_leaves c.self.inside.leaves c.in-Some.leaves c.args.self.now c.in-Some.is c.self.view_is in
    let ls = items_in c.in-Some.leaves in
    let full = subst AreFull (sym mine) (subst AreFull c.self.view_is c.self.invariant) in
    let same = ap (λ ls. rows_in (blocks_of_leaves ls)) mine in
    let few : rows_in (blocks_of_leaves ls) ≤ 2 ^ 60 = omega (arith, same, c.requires.few) in
    let n = c.found_before-found.result.count in
    let x = exact_before ls n c.found_before-found.result.sum full few c.found_before-found.ensures.before_is in
    let p = more_blocks ls n (c.args.least - 1) c.found_before-found.result.sum full few c.found_before-found.ensures in
    let all = ap (λ ls. length (blocks_of_leaves ls)) mine in
    let lt : n < length ls = p.reached (omega (arith, all, c.requires.in_range, c.if-least-eq0.false)) in
    let leaf = leaf_at ls n c.get.result.now lt c.get.ensures in
    let many : c.len.result ≡ length c.get.result.now = c.len.ensures.value ∙ ap length c.run.ensures in
    let next = ap length leaf.next ∙ length-append (blocks_of_leaves (take n ls)) c.get.result.now in
    let most = few_length ls (n + 1) full few in
    omega (arith, many, next, most, x.blocks)

pub overflow_add-found : goal.overflow_add-found
overflow_add-found c =
    let mine = some_leaves c.self.inside.leaves c.in-Some.leaves c.args.self.now c.in-Some.is c.self.view_is in
    let ls = items_in c.in-Some.leaves in
    let full = subst AreFull (sym mine) (subst AreFull c.self.view_is c.self.invariant) in
    let same = ap (λ ls. rows_in (blocks_of_leaves ls)) mine in
    let few : rows_in (blocks_of_leaves ls) ≤ 2 ^ 60 = omega (arith, same, c.requires.few) in
    let n = c.found_before-found.result.count in
    let x = exact_before ls n c.found_before-found.result.sum full few c.found_before-found.ensures.before_is in
    let p = more_blocks ls n (c.args.least - 1) c.found_before-found.result.sum full few c.found_before-found.ensures in
    let all = ap (λ ls. length (blocks_of_leaves ls)) mine in
    let lt : n < length ls = p.reached (omega (arith, all, c.requires.in_range, c.if-least-eq0.false)) in
    let most = few_leaves ls full few in
    omega (arith, lt, most)

pub invariant_of-result : goal.invariant_of-result
invariant_of-result c =
    let mine = some_leaves c.self.inside.leaves c.in-Some.leaves c.args.self.now c.in-Some.is c.self.view_is in
    let full = subst AreFull (sym mine) (subst AreFull c.self.view_is c.self.invariant) in
    subst AreFull (sym c.in_ok-behind.ensures) (full_drop (c.found_before-found.result.count + 1) (items_in c.in-Some.leaves) full)

pub returns-clause-blocks : goal.returns-clause-blocks
returns-clause-blocks c =
    let mine = some_leaves c.self.inside.leaves c.in-Some.leaves c.args.self.now c.in-Some.is c.self.view_is in
    let ls = items_in c.in-Some.leaves in
    let full = subst AreFull (sym mine) (subst AreFull c.self.view_is c.self.invariant) in
    let same = ap (λ ls. rows_in (blocks_of_leaves ls)) mine in
    let few : rows_in (blocks_of_leaves ls) ≤ 2 ^ 60 = omega (arith, same, c.requires.few) in
    let n = c.found_before-found.result.count in
    let x = exact_before ls n c.found_before-found.result.sum full few c.found_before-found.ensures.before_is in
    let p = more_blocks ls n (c.args.least - 1) c.found_before-found.result.sum full few c.found_before-found.ensures in
    let all = ap (λ ls. length (blocks_of_leaves ls)) mine in
    let lt : n < length ls = p.reached (omega (arith, all, c.requires.in_range, c.if-least-eq0.false)) in
    let leaf = leaf_at ls n c.get.result.now lt c.get.ensures in
    let many : c.len.result ≡ length c.get.result.now = c.len.ensures.value ∙ ap length c.run.ensures in
    let next = ap length leaf.next ∙ length-append (blocks_of_leaves (take n ls)) c.get.result.now in
    let end = c.found_before-found.result.sum.blocks + c.len.result in
    ap blocks_of_leaves c.in_ok-behind.ensures ∙ last_blocks (n + 1) ls end (omega (arith, many, next, x.blocks)) ∙ ap (λ ls. drop end (blocks_of_leaves ls)) mine

pub returns-clause-within : goal.returns-clause-within
returns-clause-within c =
    let mine = some_leaves c.self.inside.leaves c.in-Some.leaves c.args.self.now c.in-Some.is c.self.view_is in
    let ls = items_in c.in-Some.leaves in
    let full = subst AreFull (sym mine) (subst AreFull c.self.view_is c.self.invariant) in
    let same = ap (λ ls. rows_in (blocks_of_leaves ls)) mine in
    let few : rows_in (blocks_of_leaves ls) ≤ 2 ^ 60 = omega (arith, same, c.requires.few) in
    let n = c.found_before-found.result.count in
    let x = exact_before ls n c.found_before-found.result.sum full few c.found_before-found.ensures.before_is in
    let p = more_blocks ls n (c.args.least - 1) c.found_before-found.result.sum full few c.found_before-found.ensures in
    let all = ap (λ ls. length (blocks_of_leaves ls)) mine in
    let lt : n < length ls = p.reached (omega (arith, all, c.requires.in_range, c.if-least-eq0.false)) in
    let leaf = leaf_at ls n c.get.result.now lt c.get.ensures in
    let many : c.len.result ≡ length c.get.result.now = c.len.ensures.value ∙ ap length c.run.ensures in
    let next = ap length leaf.next ∙ length-append (blocks_of_leaves (take n ls)) c.get.result.now in
    let less = front_blocks (n + 1) ls in
    omega (arith, many, next, less, x.blocks, all)

pub returns-clause-least : goal.returns-clause-least
returns-clause-least c =
    let mine = some_leaves c.self.inside.leaves c.in-Some.leaves c.args.self.now c.in-Some.is c.self.view_is in
    let ls = items_in c.in-Some.leaves in
    let full = subst AreFull (sym mine) (subst AreFull c.self.view_is c.self.invariant) in
    let same = ap (λ ls. rows_in (blocks_of_leaves ls)) mine in
    let few : rows_in (blocks_of_leaves ls) ≤ 2 ^ 60 = omega (arith, same, c.requires.few) in
    let n = c.found_before-found.result.count in
    let x = exact_before ls n c.found_before-found.result.sum full few c.found_before-found.ensures.before_is in
    let p = more_blocks ls n (c.args.least - 1) c.found_before-found.result.sum full few c.found_before-found.ensures in
    let all = ap (λ ls. length (blocks_of_leaves ls)) mine in
    let lt : n < length ls = p.reached (omega (arith, all, c.requires.in_range, c.if-least-eq0.false)) in
    let leaf = leaf_at ls n c.get.result.now lt c.get.ensures in
    let many : c.len.result ≡ length c.get.result.now = c.len.ensures.value ∙ ap length c.run.ensures in
    let next = ap length leaf.next ∙ length-append (blocks_of_leaves (take n ls)) c.get.result.now in
    let now = p.now lt in
    omega (arith, many, next, now, x.blocks, c.if-least-eq0.false)
