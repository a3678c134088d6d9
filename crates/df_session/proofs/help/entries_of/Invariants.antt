use Rattle.std.proofs.Common.{◌≡◌, map, take}
use Rattle.df_session.specs.Help.{entries}
use Rattle.df_session.proofs.help.entries_of.Given as goal

abbrev pub invariant-loop-command : goal.invariant-loop-command
invariant-loop-command l = l.text.items ≡ entries l.name (map (λ c. (c.0.now, c.1.now, c.2.now)) (take l.command-index l.commands))
