use Rattle.std.proofs.Common.{arith}
use Rattle.dataframes.proofs.TableFacts.{none-past, row-here}
use Rattle.dataframes.proofs.view_table.ViewTable.row.Goals as goal

pub returns-then-at-len-clause-row : goal.returns-then-at-len-clause-row
returns-then-at-len-clause-row c = none-past c.args.self.now.table.now.rows c.args.at (omega (arith, c.if-at-len.true, c.len.ensures.value))

pub returns-clause-row : goal.returns-clause-row
returns-clause-row c = row-here c.args.self.now.table.now.rows c.args.at c.in_ok-row.row (omega (arith, c.if-at-len.false, c.len.ensures.value)) c.in_ok-row.ensures
