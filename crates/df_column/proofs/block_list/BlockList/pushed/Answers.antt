use Rattle.std.proofs.Common.{◌∙◌, ◌++◌, ◌∷◌, [], ap, append_assoc, arith, length, sym}
use Rattle.std.specs.Arc.{arc_value}
use Rattle.std.proofs.lemmas.Result.{IfOk-weaker}
use Rattle.df_column.specs.BlockLists.{rows_in}
use Rattle.df_column.proofs.BlockListLemmas.{rows_both}
use Rattle.df_column.proofs.LeafEnds.{count_push}
use Rattle.df_column.proofs.block_list.BlockList.pushed.Goals as goal

pub overflow_add-rows : goal.overflow_add-rows
overflow_add-rows c =
    let both = rows_both c.self.inside.leaves c.self.inside.tail in
    let few = c.self.invariant in
    omega (arith, both, few, c.rows.ensures.value, c.rows-2.ensures.value)

pub end_behind-requires : goal.end_behind-requires
end_behind-requires c =
    let both = rows_both c.self.inside.leaves c.self.inside.tail in
    let few = c.self.invariant in
    omega (arith, both, few, c.rows.ensures.value, c.rows-2.ensures.value)

pub invariant_of-result : goal.invariant_of-result
invariant_of-result c =
    let both = rows_both c.self.inside.leaves c.in_ok-tail.tail in
    let k = ap rows_in c.in_ok-tail.ensures ∙ count_push c.self.inside.tail (arc_value c.args.block) in
    let t = ap length c.tags.ensures.tags ∙ ap (λ p. length p.tags) c.deref.ensures in
    omega (arith, both, k, t, c.rows.ensures.value, c.rows-2.ensures.value, c.in_ok-end_behind.ensures.value, c.in_ok-end_behind.ensures.few)

pub with_first_leaf-requires : goal.with_first_leaf-requires
with_first_leaf-requires c =
    let both = rows_both c.self.inside.leaves c.in_ok-tail.tail in
    let k = ap rows_in c.in_ok-tail.ensures ∙ count_push c.self.inside.tail (arc_value c.args.block) in
    let t = ap length c.tags.ensures.tags ∙ ap (λ p. length p.tags) c.deref.ensures in
    omega (arith, both, k, t, c.rows.ensures.value, c.rows-2.ensures.value, c.in_ok-end_behind.ensures.value, c.in_ok-end_behind.ensures.few)

pub returns : goal.returns
returns c =
    let block = arc_value c.args.block in
    IfOk-weaker c.with_first_leaf.result _ _
    (λ list h. h
    ∙ ap (λ t. c.self.inside.leaves ++ t) c.in_ok-tail.ensures
    ∙ sym (append_assoc c.self.inside.leaves c.self.inside.tail (block ∷ []))
    ∙ ap (λ bs. bs ++ block ∷ []) c.self.view_is)
    c.with_first_leaf.ensures
