use Rattle.std.proofs.Common.{arith}
use Rattle.df_column.proofs.BlockListLemmas.{few_blocks, rows_both}
use Rattle.df_column.proofs.block_list.BlockList.len.Goals as goal

pub overflow_add-result : goal.overflow_add-result
overflow_add-result c =
    let front = few_blocks c.self.inside.leaves c.blocks-2.ensures.some in
    let back = few_blocks c.self.inside.tail c.len.ensures.some in
    let both = rows_both c.self.inside.leaves c.self.inside.tail in
    let few = c.self.invariant in
    omega (arith, front, back, both, few, c.blocks-2.ensures.value, c.len.ensures.value)
