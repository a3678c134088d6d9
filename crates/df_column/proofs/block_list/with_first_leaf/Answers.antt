use Rattle.std.proofs.Common.{◌∙◌, ap, arith, length, length-take}
use Rattle.df_column.specs.BlockLists.{rows_in}
use Rattle.df_column.proofs.BlockListLemmas.{rows_both}
use Rattle.df_column.proofs.LeafEnds.{part_rows}
use Rattle.df_column.proofs.ListParts.{put_in_two}
use Rattle.df_column.proofs.block_list.with_first_leaf.Goals as goal

pub with_leaf-requires : goal.with_leaf-requires
with_leaf-requires c =
    let b = rows_both c.args.leaves c.args.run in
    let p = part_rows c.args.run 0 c.min-many.result in
    let own = ap rows_in c.in_ok-part.ensures in
    let many = ap length c.in_ok-part.ensures ∙ length-take c.min-many.result c.args.run in
    omega (arith, b, p, own, many, c.requires)

pub invariant_of-result : goal.invariant_of-result
invariant_of-result c =
    let whole = put_in_two c.args.leaves c.args.run c.in_ok-part.field-0 c.in_ok-leaves.leaves c.in_ok-tail.tail c.min-many.result c.len-2.result (omega arith) (omega (arith, c.len-2.ensures.value)) c.in_ok-part.ensures c.in_ok-leaves.ensures c.in_ok-tail.ensures in
    let n = ap rows_in whole in
    omega (arith, n, c.requires)

pub returns : goal.returns
returns c = put_in_two c.args.leaves c.args.run c.in_ok-part.field-0 c.in_ok-leaves.leaves c.in_ok-tail.tail c.min-many.result c.len-2.result (omega arith) (omega (arith, c.len-2.ensures.value)) c.in_ok-part.ensures c.in_ok-leaves.ensures c.in_ok-tail.ensures
