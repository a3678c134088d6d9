use Rattle.std.proofs.Common.{◌∙◌, ◌+◌, ◌++◌, ◌≤◌, ap, arith, drop, length, length-drop, sym, take}
use Rattle.std.proofs.lemmas.List.{take-append-le}
use Rattle.df_column.specs.BlockLists.{blocks_of_leaves, rows_in}
use Rattle.df_column.proofs.LeafTreeLemmas.{cut_rows, taken_behind}
use Rattle.df_column.proofs.ListParts.{none_between}
use Rattle.df_column.proofs.leaves.Leaves.between.Goals as goal

pub first-requires : goal.first-requires
first-requires c =
    let behind = ap rows_in c.in_ok-behind.ensures.blocks in
    omega (arith, behind, (cut_rows (blocks_of_leaves c.self.inside.tree) c.in_ok-behind.from).back, c.self.invariant)

pub invariant_of-result : goal.invariant_of-result
invariant_of-result c =
    let behind = ap rows_in c.in_ok-behind.ensures.blocks in
    let first = ap rows_in c.in_ok-tree.ensures.blocks in
    omega (arith, behind, first, (cut_rows (blocks_of_leaves c.self.inside.tree) c.in_ok-behind.from).back, (cut_rows (blocks_of_leaves c.in_ok-behind.behind) c.in_ok-tree.many).front, c.self.invariant)

pub returns-then-from-high-clause-blocks : goal.returns-then-from-high-clause-blocks
returns-then-from-high-clause-blocks c = λ more.
    let n = c.in_ok-behind.from + c.in_ok-tree.many in
    let left = length-drop c.in_ok-behind.from (blocks_of_leaves c.self.inside.tree) in
    let behind = ap length c.in_ok-behind.ensures.blocks in
    let within : n ≤ length (blocks_of_leaves c.self.inside.tree) = omega (arith, left, behind, c.in_ok-tree.ensures.within, c.in_ok-behind.ensures.within) in
    c.in_ok-tree.ensures.blocks ∙ ap (take c.in_ok-tree.many) c.in_ok-behind.ensures.blocks ∙ taken_behind (blocks_of_leaves c.self.inside.tree) c.in_ok-behind.from c.in_ok-tree.many
    ∙ ap (drop c.in_ok-behind.from) (sym (take-append-le n (blocks_of_leaves c.self.inside.tree) more within)) ∙ ap (λ bs. drop c.in_ok-behind.from (take n (bs ++ more))) c.self.view_is

pub returns-clause-blocks : goal.returns-clause-blocks
returns-clause-blocks c = λ more. c.new.ensures ∙ sym (none_between (c.args.self.now ++ more) c.args.low)
