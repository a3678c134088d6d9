use Rattle.std.proofs.Common.{◌≡◌, ◌∙◌, Some, ap, sym}
use Rattle.std.specs.Prelude.{bytes_eq, position}
use Rattle.df_state.specs.Reads.{last_changes_of}
use Rattle.df_catalogue.proofs.KeptFacts.{kept-missing, kept-placed}
use Rattle.df_catalogue.proofs.PartFacts.{views-position}
use Rattle.df_state.proofs.Places.{none-named}
use Rattle.df_state.proofs.StateFacts.{state-of}
use Rattle.df_catalogue.proofs.catalogue.Catalogue.last_changes.Goals as goal

pub returns-in_err-at-clause-changes : goal.returns-in_err-at-clause-changes
returns-in_err-at-clause-changes g c =
    let name = c.args.name.now in
    let none = none-named (λ v. bytes_eq v.name name) c.args.self.now.state.views (sym c.view_index.ensures.value ∙ c.in_err-at.was) in
    rw c.from_residual.ensures (sym (kept-missing name c.args.self.now.state.views c.args.self.now.changes none))

pub returns-clause-changes : goal.returns-clause-changes
returns-clause-changes g c =
    let name = c.args.name.now in
    let vs = c.self.inside.views.items in
    let found : position (λ v. bytes_eq v.name name) vs ≡ Some c.in_ok-at.at =
    sym (views-position (λ n. bytes_eq n name) vs)
    ∙ (ap (λ s. position (λ v. bytes_eq v.name name) s.views) (state-of c.self.view_is) ∙ (sym c.view_index.ensures.value ∙ c.in_ok-at.was)) in
    c.changes.ensures ∙ (sym (kept-placed name vs c.in_ok-at.at c.index.result.now found c.index.ensures) ∙ ap (λ p. last_changes_of p name) c.self.view_is)
