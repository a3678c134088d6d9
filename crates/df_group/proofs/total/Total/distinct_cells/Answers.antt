use Rattle.std.proofs.Common.{◌≡◌, ◌<◌, ◌≤◌, ap, arith, length, pos}
use Rattle.std.proofs.lemmas.Int.{ints}
use Rattle.df_ops.specs.Aggregates.{cells_of, count_of}
use Rattle.df_group.specs.Totals.{counts_of}
use Rattle.df_group.proofs.DistinctValues.{distinct_is, has_null, null_if, null_unless, one_if}
use Rattle.df_group.proofs.ValueCounts.{few_values}
use Rattle.df_group.proofs.total.Total.distinct_cells.Goals as goal

pub returns-then-self-rows : goal.returns-then-self-rows
returns-then-self-rows c index of size own =
    let counts : length c.args.self.now.values.counts ≡ length (counts_of index of) = ap (λ t. length t.values.counts) own in
    let count : c.args.self.now.sums.count ≡ pos (count_of (cells_of index of)) = ap (λ t. t.sums.count) own in
    let few = few_values index of in
    let fewer : count_of (cells_of index of) < length of = omega (arith, ints, count, size, c.if-self-rows.true, c.requires) in
    let null : one_if (has_null index of) ≡ 1 = ap one_if (null_if index of fewer) in
    let all = distinct_is index of in
    omega (arith, ints, counts, few, null, all, size, c.requires, c.values.ensures, c.min-values.ensures)

pub returns-else-self-rows : goal.returns-else-self-rows
returns-else-self-rows c index of size own =
    let counts : length c.args.self.now.values.counts ≡ length (counts_of index of) = ap (λ t. length t.values.counts) own in
    let count : c.args.self.now.sums.count ≡ pos (count_of (cells_of index of)) = ap (λ t. t.sums.count) own in
    let few = few_values index of in
    let all_counted : length of ≤ count_of (cells_of index of) = omega (arith, ints, count, size, c.if-self-rows.false, c.requires) in
    let null : one_if (has_null index of) ≡ 0 = ap one_if (null_unless index of all_counted) in
    let all = distinct_is index of in
    omega (arith, ints, counts, few, null, all, size, c.requires, c.values.ensures, c.min-values.ensures)
