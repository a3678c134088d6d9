use Rattle.std.proofs.Common.{ap, arith}
use Rattle.df_column.specs.BlockLists.{rows_in}
use Rattle.df_column.proofs.BlockListLemmas.{rows_both}
use Rattle.df_column.proofs.block_list.BlockList.rows.Goals as goal

pub overflow_add-result : goal.overflow_add-result
overflow_add-result c =
    let both = rows_both c.self.inside.leaves c.self.inside.tail in
    let few = c.self.invariant in
    omega (arith, both, few, c.rows.ensures.value, c.rows-2.ensures.value)

pub returns-clause-value : goal.returns-clause-value
returns-clause-value c =
    let both = rows_both c.self.inside.leaves c.self.inside.tail in
    let v = ap rows_in c.self.view_is in
    omega (arith, both, v, c.rows.ensures.value, c.rows-2.ensures.value)

pub returns-clause-few : goal.returns-clause-few
returns-clause-few c =
    let both = rows_both c.self.inside.leaves c.self.inside.tail in
    let few = c.self.invariant in
    omega (arith, both, few, c.rows.ensures.value, c.rows-2.ensures.value)
