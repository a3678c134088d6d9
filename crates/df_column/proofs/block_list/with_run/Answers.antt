use Rattle.std.proofs.Common.{◌≡◌, ◌∙◌, ◌++◌, ◌/◌, ap, append_assoc, arith, drop, length, length-drop, length-take, sym, take}
use Rattle.std.proofs.lemmas.Result.{IfOk-weaker}
use Rattle.df_column.specs.BlockLists.{rows_in}
use Rattle.df_column.proofs.BlockListLemmas.{rows_both}
use Rattle.df_column.proofs.LeafEnds.{part_rows}
use Rattle.df_column.proofs.ListParts.{all_taken, take_longer}
use Rattle.df_column.proofs.block_list.with_run.Goals as goal

pub with_leaf-requires : goal.with_leaf-requires
with_leaf-requires c = let b = rows_both c.args.leaves c.args.run in omega (arith, b, c.requires)

pub with_leaf-requires-2 : goal.with_leaf-requires-2
with_leaf-requires-2 c =
    let b = rows_both c.args.leaves c.args.run in
    let p = part_rows c.args.run 0 (c.len-len.result / 2) in
    let own = ap rows_in c.in_ok-part.ensures in
    let many = ap length c.in_ok-part.ensures ∙ length-take (c.len-len.result / 2) c.args.run in
    omega (arith, b, p, own, many, c.requires)

-- both halves
halves : (c : goal.In_ok-part-2) → c.in_ok-part.field-0 ++ c.in_ok-part-2.field-0 ≡ c.args.run
halves c =
    ap (λ bs. bs ++ c.in_ok-part-2.field-0) c.in_ok-part.ensures
    ∙ ap (λ bs. drop 0 (take (c.len-len.result / 2) c.args.run) ++ bs) c.in_ok-part-2.ensures
    ∙ take_longer c.args.run 0 (c.len-len.result / 2) c.len-len.result (omega arith) (omega arith)
    ∙ all_taken c.args.run c.len-len.result (omega (arith, c.len-len.ensures.value))

pub with_leaf-requires-3 : goal.with_leaf-requires-3
with_leaf-requires-3 c =
    let b = rows_both c.args.leaves c.args.run in
    let first = ap rows_in c.in_ok-first.ensures ∙ rows_both c.args.leaves c.in_ok-part.field-0 in
    let both = ap rows_in (sym (halves c)) ∙ rows_both c.in_ok-part.field-0 c.in_ok-part-2.field-0 in
    let many = ap length c.in_ok-part-2.ensures ∙ length-drop (c.len-len.result / 2) (take c.len-len.result c.args.run) in
    let whole = length-take c.len-len.result c.args.run in
    omega (arith, b, first, both, many, whole, c.requires)

pub returns : goal.returns
returns c =
    IfOk-weaker c.with_leaf-3.result _ _
    (λ both h. h
    ∙ ap (λ bs. bs ++ c.in_ok-part-2.field-0) c.in_ok-first.ensures
    ∙ append_assoc c.args.leaves c.in_ok-part.field-0 c.in_ok-part-2.field-0
    ∙ ap (λ bs. c.args.leaves ++ bs)
    (ap (λ bs. bs ++ c.in_ok-part-2.field-0) c.in_ok-part.ensures
    ∙ ap (λ bs. drop 0 (take (c.len-len.result / 2) c.args.run) ++ bs) c.in_ok-part-2.ensures
    ∙ take_longer c.args.run 0 (c.len-len.result / 2) c.len-len.result (omega arith) (omega arith)
    ∙ all_taken c.args.run c.len-len.result (omega (arith, c.len-len.ensures.value))))
    c.with_leaf-3.ensures
