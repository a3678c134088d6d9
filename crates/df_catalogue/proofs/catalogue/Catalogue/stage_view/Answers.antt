use Rattle.std.proofs.Common.{◌<◌, ◌∙◌, ap, length, arith}
use Rattle.std.specs.Prelude.{option_map, vec_capacity}
use Rattle.df_state.specs.declared.change.Change.TheVariants.{Register}
use Rattle.df_catalogue.specs.declared.staging.Staging.TheVariants.{NewView}
use Rattle.df_frame.specs.FrameParts.{schemas_of, states_of}
use Rattle.df_catalogue.specs.LiveViews.{changes_kept}
use Rattle.df_catalogue.specs.Parts.{state_of}
use Rattle.df_catalogue.specs.Staging.{staged_parts}
use Rattle.df_catalogue.proofs.StagedFacts.{staged-some}
use Rattle.df_catalogue.proofs.StagedViewsFacts.{same-views, view-for, view-staged}
use Rattle.df_catalogue.proofs.StagingFacts.{none-staged, nothing-staged, something-staged}
use Rattle.df_state.proofs.StateFacts.{changes-of, keeps-of, staged-of, state-of, work-of}
use Rattle.df_catalogue.proofs.catalogue.Catalogue.stage_view.Goals as goal

pub invariant_of-self : goal.invariant_of-self
invariant_of-self g c =
    let parts = c.self.inside in
    let none = none-staged parts.frames.items parts.views.items parts.work parts.staged (staged-of c.self.view_is ∙ c.requires.nothing) in
    nothing-staged _ _ _ _ _ _ _ _ none (same-views parts.frames.items parts.views.items _ _ _ _ _ c.has_room.ensures.items c.self.invariant.parts)

pub returns-then-not-has_room-clause-state : goal.returns-then-not-has_room-clause-state
returns-then-not-has_room-clause-state g c =
    let parts = c.self.inside in
    ap (λ vs. state_of (schemas_of parts.frames.items) (states_of parts.frames.items) vs) c.has_room.ensures.items ∙ state-of c.self.view_is

pub returns-then-not-has_room-clause-kept : goal.returns-then-not-has_room-clause-kept
returns-then-not-has_room-clause-kept g c =
    record { keeps = keeps-of c.self.view_is; changes = ap changes_kept c.has_room.ensures.items ∙ changes-of c.self.view_is }

pub returns-clause-kept : goal.returns-clause-kept
returns-clause-kept g c =
    record { keeps = keeps-of c.self.view_is; changes = ap changes_kept c.has_room.ensures.items ∙ changes-of c.self.view_is }

pub returns-then-not-has_room-clause-legal : goal.returns-then-not-has_room-clause-legal
returns-then-not-has_room-clause-legal g c =
    let parts = c.self.inside in
    (same-views parts.frames.items parts.views.items _ _ _ _ _ c.has_room.ensures.items c.self.invariant.parts).legal

pub returns-then-not-has_room-clause-nothing : goal.returns-then-not-has_room-clause-nothing
returns-then-not-has_room-clause-nothing g c =
    let parts = c.self.inside in
    let none = none-staged parts.frames.items parts.views.items parts.work parts.staged (staged-of c.self.view_is ∙ c.requires.nothing) in
    ap (option_map (staged_parts parts.frames.items c.has_room.new.items.items parts.work)) none

pub invariant_of-self-2 : goal.invariant_of-self-2
invariant_of-self-2 g c =
    let parts = c.self.inside in
    let now = c.has_room.new.items in
    let more : length now.items < vec_capacity now = omega (arith, now.ok.0, c.has_room.ensures.room c.if-not-has_room.false) in
    let made = view-staged parts.frames.items parts.views.items now.items (vec_capacity now) c.args.view _ _ _ _ c.args.self.now.state c.has_room.ensures.items (state-of c.self.view_is)
    c.self.invariant.parts c.requires.sound c.requires.free c.requires.live more in
    something-staged _ _ _ _ (NewView c.args.view) _ _ _ _ c.stage.ensures
    (same-views parts.frames.items parts.views.items _ _ _ _ _ c.has_room.ensures.items c.self.invariant.parts) made.0

pub returns-clause-state : goal.returns-clause-state
returns-clause-state g c =
    let parts = c.self.inside in
    ap (λ vs. state_of (schemas_of parts.frames.items) (states_of parts.frames.items) vs) c.has_room.ensures.items ∙ state-of c.self.view_is

pub returns-clause-legal : goal.returns-clause-legal
returns-clause-legal g c =
    let parts = c.self.inside in
    (same-views parts.frames.items parts.views.items _ _ _ _ _ c.has_room.ensures.items c.self.invariant.parts).legal

pub returns-clause-staged : goal.returns-clause-staged
returns-clause-staged g c =
    let parts = c.self.inside in
    let now = c.has_room.new.items in
    let more : length now.items < vec_capacity now = omega (arith, now.ok.0, c.has_room.ensures.room c.if-not-has_room.false) in
    let made = view-staged parts.frames.items parts.views.items now.items (vec_capacity now) c.args.view _ _ _ _ c.args.self.now.state c.has_room.ensures.items (state-of c.self.view_is)
    c.self.invariant.parts c.requires.sound c.requires.free c.requires.live more in
    staged-some parts.frames.items now.items parts.work _ (NewView c.args.view) c.args.self.now (Register c.args.view.name c.args.view.live.plan) c.stage.ensures
    (view-for parts.frames.items now.items parts.work c.args.view c.args.self.now made.1 made.0.legal (work-of c.self.view_is))
