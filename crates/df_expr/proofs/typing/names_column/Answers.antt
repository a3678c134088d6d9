use Rattle.df_expr.proofs.ColumnsIn.{none_stands}
use Rattle.df_expr.proofs.Constant.{constant}
use Rattle.df_expr.proofs.typing.names_column.Goals as goal

pub returns-clause-constant : goal.returns-clause-constant
returns-clause-constant c = constant c.args.expr.now

pub returns-clause-columns : goal.returns-clause-columns
returns-clause-columns c = none_stands c.args.expr.now
