use Rattle.std.proofs.Common.{◌∙◌, ◌++◌, ap, arith}
use Rattle.df_column.specs.BlockLists.{blocks_of_leaves, rows_in}
use Rattle.df_column.proofs.BlockListLemmas.{leaves_append, rows_both}
use Rattle.df_column.proofs.leaves.Leaves.joined.Goals as goal

pub invariant_of-result : goal.invariant_of-result
invariant_of-result c =
    let made = ap rows_in (ap blocks_of_leaves c.in_ok-tree.ensures ∙ leaves_append (c.self.inside.tree) (c.other.inside.tree)) ∙ rows_both (blocks_of_leaves c.self.inside.tree) (blocks_of_leaves c.other.inside.tree) in
    let v = ap rows_in c.self.view_is in
    let w = ap rows_in c.other.view_is in
    omega (arith, made, v, w, c.rows.ensures.value, c.rows-2.ensures.value, c.in_ok-end_behind.ensures.value, c.in_ok-end_behind.ensures.few)

pub returns : goal.returns
returns c =
    ap blocks_of_leaves c.in_ok-tree.ensures ∙ leaves_append (c.self.inside.tree) (c.other.inside.tree)
    ∙ ap (λ bs. bs ++ blocks_of_leaves c.other.inside.tree) c.self.view_is ∙ ap (λ bs. c.args.self.now ++ bs) c.other.view_is
