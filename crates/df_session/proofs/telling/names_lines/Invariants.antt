use Rattle.std.proofs.Common.{◌≡◌, take}
use Rattle.df_session.specs.Told.{names_text}
use Rattle.df_session.proofs.telling.names_lines.Given as goal

abbrev pub invariant-loop-name : goal.invariant-loop-name
invariant-loop-name l = l.text.items ≡ names_text (take l.name-index l.names)
