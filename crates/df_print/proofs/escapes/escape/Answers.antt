use Rattle.std.proofs.lemmas.Result.{IfOk-weaker}
use Rattle.df_print.proofs.EscapeFacts.{escaped_printable, printed_alone}
use Rattle.df_print.proofs.escapes.escape.Goals as goal

pub returns-clause-printable : goal.returns-clause-printable
returns-clause-printable c =
    IfOk-weaker c.escaped.result _ _ (λ s e. rw e (escaped_printable c.args.text.now)) c.escaped.ensures

pub returns-clause-injective : goal.returns-clause-injective
returns-clause-injective c = printed_alone c.args.text.now c.utf8.text
