use Rattle.df_session.specs.Commands.{IsRowNumber}
use Rattle.df_session.proofs.CommandFacts.{numbers-more}
use Rattle.df_session.proofs.command.row_numbers.Goals as goal

pub loop-word-preserved : goal.loop-word-preserved
loop-word-preserved c =
    rw c.in_ok-push.ensures.items
    (numbers-more IsRowNumber _ c.args.words.now c.loop-word.word-index c.loop-word.numbers.items c.in_ok-row_number.field-0 c.loop-word-test.true c.loop-word.invariant c.in_ok-row_number.ensures)
