use Rattle.std.proofs.Common.{rules}
use Rattle.df_expr.proofs.typing.column_dtype_check.Goals as goal

pub returns-in-Err : goal.returns-in-Err
returns-in-Err c = (c.args.name.now, search rules)
