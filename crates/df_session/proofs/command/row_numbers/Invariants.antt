use Rattle.std.proofs.Common.{map, take}
use Rattle.std.specs.List.{AllZip}
use Rattle.df_session.specs.Commands.{IsRowNumber}
use Rattle.df_session.proofs.command.row_numbers.Given as goal

abbrev pub invariant-loop-word : goal.invariant-loop-word
invariant-loop-word l = AllZip IsRowNumber (map (λ w. w.now) (take l.word-index l.words)) l.numbers.items
