use Rattle.std.proofs.Common.{ap, arith, take}
use Rattle.std.proofs.lemmas.List.{length-take}
use Rattle.df_group.specs.Totals.{count_in}
use Rattle.df_group.proofs.ValueCounts.{few_rows}
use Rattle.df_group.proofs.values.counts_of.Goals as goal

pub add_row-requires : goal.add_row-requires
add_row-requires c v =
    let few = few_rows c.args.index (take c.loop-row.row-index c.args.rows.now) v in
    let size = length-take c.loop-row.row-index c.args.rows.now in
    let is = ap (λ counts. count_in counts v) c.loop-row.invariant in
    omega (arith, few, size, is)
