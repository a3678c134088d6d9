use Rattle.std.proofs.Common.{ap, arith, length}
use Rattle.std.specs.FinMap as finite
use Rattle.df_column.proofs.table.Table.are_rows.Goals as goal

pub are_rows_at-requires-clause-within : goal.are_rows_at-requires-clause-within
are_rows_at-requires-clause-within c =
    let all = ap length c.blocks-blocks.ensures.rows in
    let count = finite.len-entries c.args.self.now.rows in
    omega (arith, all, count, c.reaches.ensures.within.0 c.if-reaches.true)
