use Rattle.df_session.proofs.CommandFacts.{three-words-up}
use Rattle.df_session.proofs.command.read_define.Goals as goal

pub returns-in-len3-up : goal.returns-in-len3-up
returns-in-len3-up c = (_, _, three-words-up _ c.args.arguments.now c.in-len3-up.len_at_least)
