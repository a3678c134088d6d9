use Rattle.std.proofs.Common.{subst}
use Rattle.std.specs.Prelude.{IfOk}
use Rattle.df_session.specs.Commands.{IsCommandOf}
use Rattle.df_session.proofs.CommandFacts.{first-word}
use Rattle.df_session.proofs.command.read_command.Goals as goal

pub returns-in-len1-up-clause-said : goal.returns-in-len1-up-clause-said
returns-in-len1-up-clause-said c =
    subst (λ ws. IfOk c.command_of.result (IsCommandOf ws)) (first-word _ c.args.words.now c.in-len1-up.len_at_least) c.command_of.ensures.said
