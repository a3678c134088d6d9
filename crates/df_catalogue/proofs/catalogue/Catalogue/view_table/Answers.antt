use Rattle.std.proofs.Common.{◌≡◌, ◌∙◌, Some, refl, subst, sym, ap}
use Rattle.std.specs.Prelude.{bytes_eq, position}
use Rattle.std.specs.FinMap as finite
use Rattle.df_live.specs.Views.{IsLive}
use Rattle.df_state.specs.Reads.{view_schema_of}
use Rattle.df_state.specs.declared.state.State.{State}
use Rattle.df_frame.specs.FrameParts.{schemas_of, states_of}
use Rattle.df_catalogue.specs.KeptChanges.{tagged_table_of}
use Rattle.df_catalogue.specs.LiveViews.{tagged_frames}
use Rattle.df_catalogue.specs.Parts.{state_of}
use Rattle.df_catalogue.specs.declared.views.View.{View}
use Rattle.df_catalogue.proofs.KeptFacts.{schema-placed, table-placed}
use Rattle.df_catalogue.proofs.PartFacts.{views-position, views-table}
use Rattle.df_state.proofs.Places.{found-within, none-named}
use Rattle.df_state.proofs.StateFacts.{state-of}
use Rattle.df_catalogue.proofs.catalogue.Catalogue.view_table.Goals as goal

pub returns-in_err-at-clause-table : goal.returns-in_err-at-clause-table
returns-in_err-at-clause-table g c =
    let none = none-named (λ v. bytes_eq v.name c.args.name.now) c.args.self.now.state.views (sym c.view_index.ensures.value ∙ c.in_err-at.was) in
    rw (c.from_residual.ensures, none) refl

pub returns-in_err-at-clause-tags : goal.returns-in_err-at-clause-tags
returns-in_err-at-clause-tags g c =
    let none = none-named (λ v. bytes_eq v.name c.args.name.now) c.args.self.now.state.views (sym c.view_index.ensures.value ∙ c.in_err-at.was) in
    rw (c.from_residual.ensures, none) refl

pub returns-in_err-at-clause-schema : goal.returns-in_err-at-clause-schema
returns-in_err-at-clause-schema g c =
    let none = none-named (λ v. bytes_eq v.name c.args.name.now) c.args.self.now.state.views (sym c.view_index.ensures.value ∙ c.in_err-at.was) in
    rw (c.from_residual.ensures, none) refl

pub returns-clause-tags : goal.returns-clause-tags
returns-clause-tags g c =
    let name = c.args.name.now in
    let vs = c.self.inside.views.items in
    let v = c.index.result.now in
    let now : State = state_of (schemas_of c.self.inside.frames.items) (states_of c.self.inside.frames.items) vs in
    let found : position (λ v. bytes_eq v.name name) vs ≡ Some c.in_ok-at.at =
    sym (views-position (λ n. bytes_eq n name) vs)
    ∙ (ap (λ s. position (λ v. bytes_eq v.name name) s.views) (state-of c.self.view_is) ∙ (sym c.view_index.ensures.value ∙ c.in_ok-at.was)) in
    let live = subst (λ (w : View). IsLive w.live (tagged_frames now.frames)) (sym c.index.ensures) (c.self.invariant.parts.live.at c.in_ok-at.at v (found-within (λ v. bytes_eq v.name name) vs c.in_ok-at.at found)) in
    ap (λ t. Some t.rows) c.table.ensures
    ∙ (sym (table-placed now name vs c.in_ok-at.at v refl found c.index.ensures live) ∙ ap (λ s. tagged_table_of s name) (state-of c.self.view_is))

pub returns-clause-schema : goal.returns-clause-schema
returns-clause-schema g c =
    let name = c.args.name.now in
    let vs = c.self.inside.views.items in
    let v = c.index.result.now in
    let now : State = state_of (schemas_of c.self.inside.frames.items) (states_of c.self.inside.frames.items) vs in
    let found : position (λ v. bytes_eq v.name name) vs ≡ Some c.in_ok-at.at =
    sym (views-position (λ n. bytes_eq n name) vs)
    ∙ (ap (λ s. position (λ v. bytes_eq v.name name) s.views) (state-of c.self.view_is) ∙ (sym c.view_index.ensures.value ∙ c.in_ok-at.was)) in
    let live = subst (λ (w : View). IsLive w.live (tagged_frames now.frames)) (sym c.index.ensures) (c.self.invariant.parts.live.at c.in_ok-at.at v (found-within (λ v. bytes_eq v.name name) vs c.in_ok-at.at found)) in
    ap (λ t. Some t.schema) c.table.ensures
    ∙ (sym (schema-placed now name vs c.in_ok-at.at v refl found c.index.ensures live) ∙ ap (λ s. view_schema_of s name) (state-of c.self.view_is))

pub returns-clause-table : goal.returns-clause-table
returns-clause-table g c =
    let found : position (λ v. bytes_eq v.name c.args.name.now) c.self.inside.views.items ≡ Some c.in_ok-at.at =
    sym (views-position (λ n. bytes_eq n c.args.name.now) c.self.inside.views.items)
    ∙ (ap (λ s. position (λ v. bytes_eq v.name c.args.name.now) s.views) (state-of c.self.view_is) ∙ (sym c.view_index.ensures.value ∙ c.in_ok-at.was)) in
    rw (← (state-of c.self.view_is)) (ap (λ t. Some (finite.values t.rows)) c.table.ensures ∙ sym (views-table (λ n. bytes_eq n c.args.name.now) _ c.in_ok-at.at c.index.result.now found c.index.ensures))
