use Rattle.std.proofs.Common.{◌∙◌, ap, sym}
use Rattle.std.specs.Prelude.{option_map}
use Rattle.df_frame.specs.FrameParts.{schemas_of, states_of}
use Rattle.df_state.specs.declared.state.State.{State}
use Rattle.df_state.proofs.StateFacts.{state-of}
use Rattle.df_catalogue.specs.KeptChanges.{none_kept}
use Rattle.df_catalogue.specs.Staging.{staged_parts}
use Rattle.df_catalogue.proofs.FrameChangeFacts.{views-kept}
use Rattle.df_catalogue.proofs.StagingFacts.{nothing-staged}
use Rattle.df_catalogue.proofs.catalogue.Catalogue.keep_changes.Goals as goal

pub invariant_of-self : goal.invariant_of-self
invariant_of-self g c =
    let parts = c.self.inside in
    let same = c.forget_all.ensures in
    let kept = views-kept (schemas_of parts.frames.items) (states_of parts.frames.items) parts.views.items c.forget_all.new.views.items _ _ _ _ c.self.invariant.parts
    same.same (same.live _ c.self.invariant.parts.live) in
    nothing-staged _ _ _ _ _ _ _ _ c.clear.ensures kept.1

pub returns-clause-state : goal.returns-clause-state
returns-clause-state g c =
    let parts = c.self.inside in
    let same = c.forget_all.ensures in
    let kept = views-kept (schemas_of parts.frames.items) (states_of parts.frames.items) parts.views.items c.forget_all.new.views.items _ _ _ _ c.self.invariant.parts
    same.same (same.live _ c.self.invariant.parts.live) in
    kept.0 ∙ state-of c.self.view_is

pub returns-clause-changes : goal.returns-clause-changes
returns-clause-changes g c =
    let parts = c.self.inside in
    let same = c.forget_all.ensures in
    let kept = views-kept (schemas_of parts.frames.items) (states_of parts.frames.items) parts.views.items c.forget_all.new.views.items _ _ _ _ c.self.invariant.parts
    same.same (same.live _ c.self.invariant.parts.live) in
    same.kept ∙ ap (λ (s : State). none_kept s.views) (sym kept.0)

pub returns-clause-legal : goal.returns-clause-legal
returns-clause-legal g c =
    let parts = c.self.inside in
    let same = c.forget_all.ensures in
    let kept = views-kept (schemas_of parts.frames.items) (states_of parts.frames.items) parts.views.items c.forget_all.new.views.items _ _ _ _ c.self.invariant.parts
    same.same (same.live _ c.self.invariant.parts.live) in
    kept.1.legal
