use Rattle.std.proofs.Common.{arith}
use Rattle.std.specs.FinMap as finite
use Rattle.df_column.proofs.Bounds.{upper_at_place}
use Rattle.df_nodes.proofs.changed_tables.place_and_next.Goals as goal

pub overflow_add-result : goal.overflow_add-result
overflow_add-result c =
    let len = finite.len-entries c.args.input.now.rows in
    let within = c.in-Some.ensures.found.in_range in
    let few = c.len-few.ensures.value in
    omega arith

pub returns-in-Some-clause-behind : goal.returns-in-Some-clause-behind
returns-in-Some-clause-behind c =
    upper_at_place (finite.entries c.args.input.now.rows) c.args.tag c.in-Some.at (finite.entries_sorted c.args.input.now.rows) c.in-Some.ensures.found
