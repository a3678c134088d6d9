use Rattle.std.proofs.Common.{◌≡◌, map, take}
use Rattle.df_session.specs.Help.{help_list}
use Rattle.df_session.proofs.help.list_commands.Given as goal

abbrev pub invariant-loop-command : goal.invariant-loop-command
invariant-loop-command l = l.text.items ≡ help_list (map (λ c. (c.0.now, c.1.now, c.2.now)) (take l.command-index l.commands))
