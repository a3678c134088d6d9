use Rattle.std.proofs.Common.{refl}
use Rattle.std.proofs.lemmas.Result.{on_ok_weaker}
use Rattle.df_state.specs.declared.change.Change.TheVariants.{Append, Delete, DropView, Register, Replace}
use Rattle.df_session.proofs.answering.answer_change.Goals as goal

-- the change that each of the commands makes

pub returns-in-Append-clause-made : goal.returns-in-Append-clause-made
returns-in-Append-clause-made g c =
    on_ok_weaker c.append.result (λ e. (Append e.0 e.1, rw c.in-Append.is (e.2, e.3, e.4), e.5)) c.append.ensures.made

pub returns-in-Delete-clause-made : goal.returns-in-Delete-clause-made
returns-in-Delete-clause-made g c =
    on_ok_weaker c.delete.result (λ e. (Delete e.0 c.in-Delete.numbers, rw c.in-Delete.is (e.1, refl), e.2)) c.delete.ensures.made

pub returns-in-Replace-clause-made : goal.returns-in-Replace-clause-made
returns-in-Replace-clause-made g c =
    on_ok_weaker c.replace.result (λ e. (Replace e.0 e.1, rw c.in-Replace.is (e.2, e.3, e.4), e.5)) c.replace.ensures.made

pub returns-in-Register-clause-made : goal.returns-in-Register-clause-made
returns-in-Register-clause-made g c =
    on_ok_weaker c.register.result (λ e. (Register c.in-Register.view.now e.0, rw c.in-Register.is (refl, e.1), e.2)) c.register.ensures.made

pub returns-in-DropView-clause-made : goal.returns-in-DropView-clause-made
returns-in-DropView-clause-made g c =
    on_ok_weaker c.drop_view.result (λ e. (DropView c.in-DropView.view.now, rw c.in-DropView.is refl, e)) c.drop_view.ensures.made
