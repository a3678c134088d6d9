use Rattle.std.proofs.Common.{◌≡◌, drop}
use Rattle.df_session.specs.Words.{behind_words, steps_in}
use Rattle.df_session.proofs.words.steps_in.Given as goal

abbrev pub invariant-loop-at : goal.invariant-loop-at
invariant-loop-at l = steps_in l.line ≡ behind_words l.left l.place (drop l.at l.line)
