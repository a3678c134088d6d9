use Rattle.std.proofs.Common.{◌∙◌, sym}
use Rattle.dataframes.proofs.TableFacts.{values-length}
use Rattle.dataframes.proofs.view_table.ViewTable.len.Goals as goal

pub returns : goal.returns
returns c = c.len.ensures.value ∙ sym (values-length c.args.self.now.table.now.rows)
