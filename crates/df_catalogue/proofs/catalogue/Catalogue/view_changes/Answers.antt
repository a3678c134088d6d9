use Rattle.std.proofs.Common.{◌≡◌, ◌<◌, ◌∙◌, Some, None, ap, length, refl, subst, sym, arith}
use Rattle.std.specs.Prelude.{IfSome, bytes_eq, position}
use Rattle.std.proofs.lemmas.Result.{IfOk-weaker}
use Rattle.df_column.specs.Tables.{TableParts}
use Rattle.df_live.specs.Views.{IsLive}
use Rattle.df_state.specs.Reads.{last_changes_of, view_schema_of}
use Rattle.df_state.specs.declared.state.State.{State}
use Rattle.df_frame.specs.FrameParts.{schemas_of, states_of}
use Rattle.df_catalogue.specs.KeptChanges.{tagged_table_of}
use Rattle.df_catalogue.specs.LiveViews.{tagged_frames}
use Rattle.df_catalogue.specs.Parts.{state_of}
use Rattle.df_catalogue.specs.declared.views.View.{View}
use Rattle.df_catalogue.specs.declared.keeping.ViewChanges.{ViewChanges}
use Rattle.df_catalogue.proofs.KeptFacts.{kept-placed, kept-unplaced, schema-placed, some-weaker, table-placed}
use Rattle.df_catalogue.proofs.PartFacts.{views-position}
use Rattle.df_state.proofs.Places.{found-within}
use Rattle.df_state.proofs.StateFacts.{state-of}
use Rattle.df_catalogue.proofs.catalogue.Catalogue.view_changes.Given.{Over}
use Rattle.df_catalogue.proofs.catalogue.Catalogue.view_changes.Goals as goal

-- the view at the place
found : (g : Over) (c : goal.After-changes_of g) → position (λ v. bytes_eq v.name c.args.name.now) c.self.inside.views.items ≡ Some c.in-Some.at
found g c =
    let name = c.args.name.now in
    let vs = c.self.inside.views.items in
    sym (views-position (λ n. bytes_eq n name) vs)
    ∙ (ap (λ s. position (λ v. bytes_eq v.name name) s.views) (state-of c.self.view_is) ∙ (sym c.view_index.ensures.value ∙ c.in-Some.is))

pub returns-in-Some-clause-changes : goal.returns-in-Some-clause-changes
returns-in-Some-clause-changes g c =
    let name = c.args.name.now in
    let vs = c.self.inside.views.items in
    let is = sym (kept-placed name vs c.in-Some.at c.index.result.now (found g c) c.index.ensures) ∙ ap (λ p. last_changes_of p name) c.self.view_is in
    IfOk-weaker c.changes_of.result _ _ (λ r h. h ∙ is) c.changes_of.ensures.changes

pub returns-in-Some-clause-table : goal.returns-in-Some-clause-table
returns-in-Some-clause-table g c =
    let name = c.args.name.now in
    let vs = c.self.inside.views.items in
    let v = c.index.result.now in
    let now : State = state_of (schemas_of c.self.inside.frames.items) (states_of c.self.inside.frames.items) vs in
    let live = c.self.invariant.parts.live.at c.in-Some.at v (found-within (λ v. bytes_eq v.name name) vs c.in-Some.at (found g c)) in
    let is : tagged_table_of c.args.self.now.state name ≡ Some v.live.table.rows =
    sym (ap (λ s. tagged_table_of s name) (state-of c.self.view_is)) ∙ table-placed now name vs c.in-Some.at v refl (found g c) c.index.ensures (subst (λ (w : View). IsLive w.live (tagged_frames now.frames)) (sym c.index.ensures) live) in
    IfOk-weaker c.changes_of.result _ _ (λ r h. some-weaker r (λ (w : ViewChanges) e. is ∙ ap (λ (t : TableParts). Some t.rows) (sym e)) h) c.changes_of.ensures.table

pub returns-in-Some-clause-schema : goal.returns-in-Some-clause-schema
returns-in-Some-clause-schema g c =
    let name = c.args.name.now in
    let vs = c.self.inside.views.items in
    let v = c.index.result.now in
    let now : State = state_of (schemas_of c.self.inside.frames.items) (states_of c.self.inside.frames.items) vs in
    let live = c.self.invariant.parts.live.at c.in-Some.at v (found-within (λ v. bytes_eq v.name name) vs c.in-Some.at (found g c)) in
    let is : view_schema_of c.args.self.now.state name ≡ Some v.live.table.schema =
    sym (ap (λ s. view_schema_of s name) (state-of c.self.view_is)) ∙ schema-placed now name vs c.in-Some.at v refl (found g c) c.index.ensures (subst (λ (w : View). IsLive w.live (tagged_frames now.frames)) (sym c.index.ensures) live) in
    IfOk-weaker c.changes_of.result _ _ (λ r h. some-weaker r (λ (w : ViewChanges) e. is ∙ ap (λ (t : TableParts). Some t.schema) (sym e)) h) c.changes_of.ensures.table

pub returns-in-None-clause-changes : goal.returns-in-None-clause-changes
returns-in-None-clause-changes g c =
    let name = c.args.name.now in
    let vs = c.self.inside.views.items in
    let none : position (λ v. bytes_eq v.name name) vs ≡ None =
    sym (views-position (λ n. bytes_eq n name) vs)
    ∙ (ap (λ s. position (λ v. bytes_eq v.name name) s.views) (state-of c.self.view_is) ∙ (sym c.view_index.ensures.value ∙ c.in-None.is)) in
    sym (kept-unplaced name vs none) ∙ ap (λ p. last_changes_of p name) c.self.view_is
