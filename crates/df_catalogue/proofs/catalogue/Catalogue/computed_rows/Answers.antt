use Rattle.std.proofs.Common.{◌∙◌, sym, ap, subst}
use Rattle.std.specs.Prelude.{Ok}
use Rattle.df_state.specs.States.{IsLegal, value_over}
use Rattle.df_state.proofs.StateFacts.{state-of}
use Rattle.df_state.proofs.ComputedRows.{computed}
use Rattle.df_catalogue.proofs.catalogue.Catalogue.computed_rows.Goals as goal

pub returns-in_ok-table_over-in-Some-clause-answer : goal.returns-in_ok-table_over-in-Some-clause-answer
returns-in_ok-table_over-in-Some-clause-answer g c =
    let s = c.args.self.now.state in
    let p = c.in-Some.plan.now in
    let legal = subst IsLegal (state-of c.self.view_is) c.self.invariant.parts.legal in
    computed s c.args.name.now p legal c.in-Some.ensures
    ∙ sym (ap Ok (c.in_ok-table_over-in-Some.ensures ∙ (ap (λ fs. value_over fs p) (rw c.as_slice.ensures.value (ap (λ s. s.frames) (state-of c.self.view_is))))))
