use Rattle.df_ops.proofs.FilterLaws.{kept_where_true}
use Rattle.df_ops.proofs.RowWiseLaws.{filtered_twice}
use Rattle.df_ops.proofs.row_wise.filter_rows.Goals as goal

pub returns-clause-twice : goal.returns-clause-twice
returns-clause-twice c again = filtered_twice c.args.columns.now c.args.predicate.now c.args.rows.now again

pub returns-clause-exactly : goal.returns-clause-exactly
returns-clause-exactly c = kept_where_true c.args.columns.now c.args.predicate.now
