use Rattle.std.proofs.lemmas.Result.{on_ok_weaker}
use Rattle.df_session.proofs.FramedFacts.{frame-written}
use Rattle.df_session.proofs.writing.write_answer.Goals as goal

pub returns-in_ok-write_head : goal.returns-in_ok-write_head
returns-in_ok-write_head g c =
    rw c.if-framed.true
    (on_ok_weaker c.write_whole.result (λ text. frame-written _ _ _ _ _ _ c.args.parts.now c.line_ends_of.ensures c.in_ok-write_head.ensures text) c.write_whole.ensures)
