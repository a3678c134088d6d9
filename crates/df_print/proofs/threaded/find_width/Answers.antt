use Rattle.df_print.proofs.ColumnFacts.{width_at}
use Rattle.df_print.proofs.threaded.find_width.Goals as goal

pub returns-in-Ok : goal.returns-in-Ok
returns-in-Ok c = width_at c.args.columns.now c.args.rows.now c.args.at c.in-Ok.found c.index-columns-at.result c.requires c.in-Ok.ensures.greatest c.in-Ok.ensures.utf8
