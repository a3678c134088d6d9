use Rattle.std.proofs.Common.{sym}
use Rattle.df_session.proofs.CommandFacts.{first-word-and-rest}
use Rattle.df_session.proofs.command.read_follow.Goals as goal

pub returns-in_ok-texts_of-in-len1-up-clause-said : goal.returns-in_ok-texts_of-in-len1-up-clause-said
returns-in_ok-texts_of-in-len1-up-clause-said c =
    first-word-and-rest _ c.args.arguments.now c.in_ok-texts_of-in-len1-up.field-0 c.in-len1-up.len_at_least (sym c.in_ok-texts_of-in-len1-up.ensures)
