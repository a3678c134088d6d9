use Rattle.std.proofs.Common.{map}
use Rattle.df_session.proofs.AnswerFacts.{answered}
use Rattle.df_session.proofs.answering.answer_words.Goals as goal

pub returns : goal.returns
returns g c =
    let s = c.args.store.now in
    let n = c.answer_command.new.store in
    answered (g.S.ViewStore.Makes s n) (g.S.ViewStore.Refuses s n) (g.S.ViewStore.Keeps s n) (g.S.ViewStore.Answers s n c.args.definitions.now) (g.S.ViewStore.Next s)
    (map (λ k. (k.0.now, k.1.now, k.2.now)) c.args.commands.now) c.args.definitions.now c.answer_command.new.definitions (map (λ w. w.now) c.args.words.now) c.args.lines
    c.answer_command.result c.in_ok-command.command c.in_ok-command.ensures.said c.answer_command.ensures.answered c.answer_command.ensures.definitions
