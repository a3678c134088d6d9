use Rattle.std.proofs.Common.{arith}
use Rattle.std.specs.FinMap as finite
use Rattle.df_nodes.proofs.Bounds.{before_entry, before_no_entry}
use Rattle.df_nodes.proofs.changed_tables.rows_before_entry.Goals as goal

pub returns-then-at-changes-clause-within : goal.returns-then-at-changes-clause-within
returns-then-at-changes-clause-within c =
    let len = finite.len-entries c.args.input.now.rows in
    let within = c.lower_bound.ensures.within in
    omega arith

pub returns-then-at-changes-clause-rows : goal.returns-then-at-changes-clause-rows
returns-then-at-changes-clause-rows c =
    before_entry (finite.entries c.args.input.now.rows) c.args.changes.now c.args.at c.lower_bound.result c.index-changes-at.result (omega arith) c.lower_bound.ensures

pub returns-else-at-changes-clause-rows : goal.returns-else-at-changes-clause-rows
returns-else-at-changes-clause-rows c =
    let len = finite.len-entries c.args.input.now.rows in
    let value = c.len.ensures.value in
    before_no_entry (finite.entries c.args.input.now.rows) c.args.changes.now c.args.at c.len.result (omega arith) (omega arith)
