use Rattle.std.proofs.Common.{◌∙◌, ◌++◌, ap, arith}
use Rattle.df_column.specs.BlockLists.{blocks_of_leaves, rows_in}
use Rattle.df_column.proofs.BlockListLemmas.{leaf_behind, rows_both}
use Rattle.df_column.proofs.leaves.Leaves.pushed.Goals as goal

pub invariant_of-result : goal.invariant_of-result
invariant_of-result c =
    let l = c.args.leaf in
    let leaves = c.in_ok-tree.ensures ∙ ap (λ ms. c.self.inside.tree ++ ms) c.in_ok-last.ensures in
    let made = ap rows_in (ap blocks_of_leaves leaves ∙ leaf_behind (c.self.inside.tree) l) ∙ rows_both (blocks_of_leaves c.self.inside.tree) l in
    let v = ap rows_in c.self.view_is in
    omega (arith, made, v, c.requires)

pub returns : goal.returns
returns c =
    let l = c.args.leaf in
    let leaves = c.in_ok-tree.ensures ∙ ap (λ ms. c.self.inside.tree ++ ms) c.in_ok-last.ensures in
    ap blocks_of_leaves leaves ∙ leaf_behind (c.self.inside.tree) l ∙ ap (λ bs. bs ++ l) c.self.view_is
