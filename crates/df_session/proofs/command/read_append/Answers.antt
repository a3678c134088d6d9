use Rattle.std.proofs.Common.{arith}
use Rattle.df_session.proofs.CommandFacts.{three-words}
use Rattle.df_session.proofs.command.read_append.Goals as goal

pub returns-in_ok-line_count-in-len3 : goal.returns-in_ok-line_count-in-len3
returns-in_ok-line_count-in-len3 c = (
  _,
  _,
  _,
  three-words _ c.args.arguments.now (omega (arith, c.in-len3.len_at_least, c.in-len3.len_below)),
  c.in_ok-first-in-len3.ensures,
  c.in_ok-line_count-in-len3.ensures,
)
