use Rattle.std.proofs.Common.{◌≡◌, ◌∙◌, None, ap, map, refl, sym, subst}
use Rattle.std.specs.Prelude.{option_map, OnErr}
use Rattle.std.proofs.lemmas.Result.{err_from_is_err_and}
use Rattle.df_catalogue.specs.declared.staging.StagedFrame.{StagedFrame}
use Rattle.df_catalogue.specs.declared.staging.Staging.TheVariants.{Rows}
use Rattle.df_state.specs.declared.state.State.{State}
use Rattle.df_delta.specs.Differences.{IsDiff}
use Rattle.df_state.specs.FrameChanges.{change_of}
use Rattle.df_frame.specs.FrameChanges.{frame_after}
use Rattle.df_frame.specs.FrameTables.{tagged_rows_of}
use Rattle.df_frame.specs.FrameParts.{schemas_of, states_of}
use Rattle.df_catalogue.specs.KeptChanges.{AreKeptAt}
use Rattle.df_catalogue.specs.LiveViews.{changes_staged, tagged_frames, view_state, AreStaged}
use Rattle.df_catalogue.specs.Staging.{staged_parts, state_with_rows}
use Rattle.df_catalogue.proofs.KeptFacts.{kept-staged}
use Rattle.df_catalogue.proofs.FrameChangeFacts.{changeable-of, fits-after, views-kept}
use Rattle.df_state.proofs.FrameChangeFacts.{accepted-of, deleted-of, free-of, sound-of}
use Rattle.df_catalogue.proofs.StagedRowsFacts.{rows-after, rows-counts, rows-led, rows-sound, rows-work, IsRowsOf}
use Rattle.df_catalogue.proofs.StagedFacts.{rows-for, staged-some}
use Rattle.df_catalogue.proofs.StagingFacts.{none-staged, nothing-staged, something-staged}
use Rattle.df_state.proofs.StateFacts.{changes-of, keeps-of, staged-of, state-of}
use Rattle.df_catalogue.proofs.catalogue.Catalogue.stage_rows.Goals as goal

pub changed-requires-clause-sound : goal.changed-requires-clause-sound
changed-requires-clause-sound g c =
    let known = changeable-of _ _ _ _ _ c.args.change c.index.result.now (state-of c.self.view_is) refl c.self.invariant.parts.legal c.requires.free c.index.ensures in
    known.numbered

pub changed-requires-clause-free : goal.changed-requires-clause-free
changed-requires-clause-free g c =
    let known = changeable-of _ _ _ _ _ c.args.change c.index.result.now (state-of c.self.view_is) refl c.self.invariant.parts.legal c.requires.free c.index.ensures in
    known.takes

pub changed-requires-clause-fits : goal.changed-requires-clause-fits
changed-requires-clause-fits g c =
    let known = changeable-of _ _ _ _ _ c.args.change c.index.result.now (state-of c.self.view_is) refl c.self.invariant.parts.legal c.requires.free c.index.ensures in
    let free = free-of _ _ _ _ c.args.change (state-of c.self.view_is) refl c.requires.free in
    fits-after _ _ c.args.frame c.args.change c.index.result.now c.self.invariant.parts.legal (sound-of c.args.frame c.args.change c.accepted_rows-accepted.ensures.sound) free known c.index.ensures

pub invariant_of-self : goal.invariant_of-self
invariant_of-self g c =
    let parts = c.self.inside in
    let kept = views-kept (schemas_of parts.frames.items) (states_of parts.frames.items) parts.views.items c.prepare_all.new.views.items _ _ _ _ c.self.invariant.parts
    c.prepare_all.ensures.headings (c.prepare_all.ensures.live _ c.self.invariant.parts.live) in
    let none = none-staged parts.frames.items parts.views.items parts.work parts.staged (staged-of c.self.view_is ∙ c.requires.nothing) in
    nothing-staged _ _ _ _ _ _ _ _ none kept.1

pub returns-in_err-views-clause-state : goal.returns-in_err-views-clause-state
returns-in_err-views-clause-state g c =
    let parts = c.self.inside in
    let kept = views-kept (schemas_of parts.frames.items) (states_of parts.frames.items) parts.views.items c.prepare_all.new.views.items _ _ _ _ c.self.invariant.parts
    c.prepare_all.ensures.headings (c.prepare_all.ensures.live _ c.self.invariant.parts.live) in
    kept.0 ∙ state-of c.self.view_is

pub returns-in_err-views-clause-kept : goal.returns-in_err-views-clause-kept
returns-in_err-views-clause-kept g c = record { keeps = keeps-of c.self.view_is; changes = c.prepare_all.ensures.changes ∙ changes-of c.self.view_is }

pub returns-clause-kept : goal.returns-clause-kept
returns-clause-kept g c = record { keeps = keeps-of c.self.view_is; changes = c.prepare_all.ensures.changes ∙ changes-of c.self.view_is }

pub returns-in_err-views-clause-legal : goal.returns-in_err-views-clause-legal
returns-in_err-views-clause-legal g c =
    let parts = c.self.inside in
    let kept = views-kept (schemas_of parts.frames.items) (states_of parts.frames.items) parts.views.items c.prepare_all.new.views.items _ _ _ _ c.self.invariant.parts
    c.prepare_all.ensures.headings (c.prepare_all.ensures.live _ c.self.invariant.parts.live) in
    kept.1.legal

pub returns-in_err-views-clause-nothing : goal.returns-in_err-views-clause-nothing
returns-in_err-views-clause-nothing g c =
    let parts = c.self.inside in
    let none = none-staged parts.frames.items parts.views.items parts.work parts.staged (staged-of c.self.view_is ∙ c.requires.nothing) in
    let made = err_from_is_err_and c.from_residual-in_err-views.result c.from_residual-in_err-views.ensures.1 in
    let shown = option_map (staged_parts parts.frames.items c.prepare_all.new.views.items parts.work) in
    subst (λ r. OnErr r (shown parts.staged ≡ None)) (sym made.1) (ap shown none)

pub invariant_of-self-2 : goal.invariant_of-self-2
invariant_of-self-2 g c =
    let parts = c.self.inside in
    let rows : StagedFrame = record {
      frame = c.args.frame;
      changed = c.in_ok-changed.changed;
      views = c.in_ok-views.views;
      work = c.prepare_all.new.meter;
      accepted = c.accepted_rows-accepted.result;
      deleted = c.deleted_rows-deleted.result;
    } in
    let known = changeable-of _ _ _ _ _ c.args.change c.index.result.now (state-of c.self.view_is) refl c.self.invariant.parts.legal c.requires.free c.index.ensures in
    let kept = views-kept (schemas_of parts.frames.items) (states_of parts.frames.items) parts.views.items c.prepare_all.new.views.items _ _ _ _ c.self.invariant.parts
    c.prepare_all.ensures.headings (c.prepare_all.ensures.live _ c.self.invariant.parts.live) in
    let free = free-of _ _ _ _ c.args.change (state-of c.self.view_is) refl c.requires.free in
    let is : IsRowsOf parts.frames.items parts.views.items c.args.change c.index.result.now rows = record {
      legal = c.self.invariant.parts.legal;
      sound = sound-of c.args.frame c.args.change c.accepted_rows-accepted.ensures.sound;
      free = free;
      known = known;
      lent = c.index.ensures;
      schema = c.in_ok-changed.ensures.schema;
      state = c.in_ok-changed.ensures.state;
    } in
    let x = c.index.result.now.state in
    let diff = subst (IsDiff (tagged_rows_of x) (tagged_rows_of (frame_after x c.args.change))) (sym c.get.ensures) c.in_ok-changed.ensures.diff in
    let led = rows-led parts.frames.items parts.views.items c.args.change c.index.result.now rows c.get.result.now is diff in
    let same_views = ap (λ (s : State). s.views) kept.0 in
    let leads = subst (AreStaged c.prepare_all.new.views.items c.in_ok-views.views.items) led.1 (c.in_ok-views.ensures.staged (tagged_frames (states_of parts.frames.items)) c.self.invariant.parts.live led.0) in
    let sound = rows-sound parts.frames.items parts.views.items c.prepare_all.new.views.items c.args.change c.index.result.now rows is same_views
    (c.accepted_rows-accepted.ensures.value ∙ accepted-of c.args.frame c.args.change) (c.deleted_rows-deleted.ensures ∙ deleted-of c.args.frame c.args.change) c.in_ok-views.ensures.count leads c.in_ok-views.ensures.room in
    something-staged _ _ _ _ (Rows rows) _ _ _ _ c.stage.ensures kept.1 sound

pub returns-clause-state : goal.returns-clause-state
returns-clause-state g c =
    let parts = c.self.inside in
    let kept = views-kept (schemas_of parts.frames.items) (states_of parts.frames.items) parts.views.items c.prepare_all.new.views.items _ _ _ _ c.self.invariant.parts
    c.prepare_all.ensures.headings (c.prepare_all.ensures.live _ c.self.invariant.parts.live) in
    kept.0 ∙ state-of c.self.view_is

pub returns-clause-legal : goal.returns-clause-legal
returns-clause-legal g c =
    let parts = c.self.inside in
    let kept = views-kept (schemas_of parts.frames.items) (states_of parts.frames.items) parts.views.items c.prepare_all.new.views.items _ _ _ _ c.self.invariant.parts
    c.prepare_all.ensures.headings (c.prepare_all.ensures.live _ c.self.invariant.parts.live) in
    kept.1.legal

pub returns-clause-sound : goal.returns-clause-sound
returns-clause-sound g c = sound-of c.args.frame c.args.change c.accepted_rows-accepted.ensures.sound

pub returns-clause-staged : goal.returns-clause-staged
returns-clause-staged g c =
    let parts = c.self.inside in
    let rows : StagedFrame = record {
      frame = c.args.frame;
      changed = c.in_ok-changed.changed;
      views = c.in_ok-views.views;
      work = c.prepare_all.new.meter;
      accepted = c.accepted_rows-accepted.result;
      deleted = c.deleted_rows-deleted.result;
    } in
    let known = changeable-of _ _ _ _ _ c.args.change c.index.result.now (state-of c.self.view_is) refl c.self.invariant.parts.legal c.requires.free c.index.ensures in
    let kept = views-kept (schemas_of parts.frames.items) (states_of parts.frames.items) parts.views.items c.prepare_all.new.views.items _ _ _ _ c.self.invariant.parts
    c.prepare_all.ensures.headings (c.prepare_all.ensures.live _ c.self.invariant.parts.live) in
    let free = free-of _ _ _ _ c.args.change (state-of c.self.view_is) refl c.requires.free in
    let is : IsRowsOf parts.frames.items parts.views.items c.args.change c.index.result.now rows = record {
      legal = c.self.invariant.parts.legal;
      sound = sound-of c.args.frame c.args.change c.accepted_rows-accepted.ensures.sound;
      free = free;
      known = known;
      lent = c.index.ensures;
      schema = c.in_ok-changed.ensures.schema;
      state = c.in_ok-changed.ensures.state;
    } in
    let x = c.index.result.now.state in
    let diff = subst (IsDiff (tagged_rows_of x) (tagged_rows_of (frame_after x c.args.change))) (sym c.get.ensures) c.in_ok-changed.ensures.diff in
    let led = rows-led parts.frames.items parts.views.items c.args.change c.index.result.now rows c.get.result.now is diff in
    let same_views = ap (λ (s : State). s.views) kept.0 in
    let leads = subst (AreStaged c.prepare_all.new.views.items c.in_ok-views.views.items) led.1 (c.in_ok-views.ensures.staged (tagged_frames (states_of parts.frames.items)) c.self.invariant.parts.live led.0) in
    let sound = rows-sound parts.frames.items parts.views.items c.prepare_all.new.views.items c.args.change c.index.result.now rows is same_views
    (c.accepted_rows-accepted.ensures.value ∙ accepted-of c.args.frame c.args.change) (c.deleted_rows-deleted.ensures ∙ deleted-of c.args.frame c.args.change) c.in_ok-views.ensures.count leads c.in_ok-views.ensures.room in
    let after = rows-after parts.frames.items parts.views.items c.prepare_all.new.views.items c.args.change c.index.result.now rows is same_views in
    let counted = rows-work parts.frames.items parts.views.items c.prepare_all.new.views.items c.args.change c.index.result.now rows c.get.result.now c.prepare_all.new.meter is same_views led.1
    (c.in_ok-views.ensures.work (tagged_frames (states_of parts.frames.items)) c.self.invariant.parts.live led.0) in
    let kept_changes =
    subst (λ k. AreKeptAt k (change_of c.args.frame c.args.change) c.args.self.now.state (state_with_rows parts.frames.items c.prepare_all.new.views.items rows) (changes_staged c.in_ok-views.views.items))
    (keeps-of c.self.view_is)
    (kept-staged parts.keeps c.args.frame c.args.change c.args.self.now.state (state_with_rows parts.frames.items c.prepare_all.new.views.items rows) parts.views.items
    (map view_state c.prepare_all.new.views.items) _ _ (changes_staged c.in_ok-views.views.items) refl same_views
    (ap (λ (s : State). tagged_frames s.frames) (state-of c.self.view_is)) led.1
    (c.in_ok-views.ensures.kept (tagged_frames (states_of parts.frames.items)) c.self.invariant.parts.live led.0)) in
    staged-some parts.frames.items c.prepare_all.new.views.items parts.work _ (Rows rows) c.args.self.now (change_of c.args.frame c.args.change) c.stage.ensures
    (rows-for parts.frames.items parts.views.items c.prepare_all.new.views.items parts.work rows c.args.self.now c.args.change (state-of c.self.view_is) after sound.legal counted
    (rows-counts c.args.frame c.args.change _ _ (c.accepted_rows-accepted.ensures.value ∙ accepted-of c.args.frame c.args.change) (c.deleted_rows-deleted.ensures ∙ deleted-of c.args.frame c.args.change))
    kept_changes)
