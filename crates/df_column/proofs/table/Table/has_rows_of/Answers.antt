use Rattle.std.proofs.Common.{ap, arith, length}
use Rattle.std.specs.FinMap as finite
use Rattle.df_column.proofs.table.Table.has_rows_of.Goals as goal

pub are_rows_of-requires-clause-within : goal.are_rows_of-requires-clause-within
are_rows_of-requires-clause-within c =
    let all = ap length c.blocks-2.ensures.rows in
    let count = finite.len-entries c.args.self.now.rows in
    omega (arith, all, count, c.reaches.ensures.within.0 c.if-not-reaches.false)

pub are_rows_of-requires-clause-within_other : goal.are_rows_of-requires-clause-within_other
are_rows_of-requires-clause-within_other c =
    let all = ap length c.blocks-3.ensures.rows in
    let count = finite.len-entries c.args.other.now.rows in
    omega (arith, all, count, c.reaches-else-not-reaches.ensures.within.0 c.if-not-reaches-2.false)
