use Rattle.std.proofs.Common.{◌≡◌, Some, ap, arith, refl}
use Rattle.std.specs.Prelude.{option_map}
use Rattle.df_catalogue.specs.declared.staging.Staging.TheVariants.{NewView, OldView}
use Rattle.df_catalogue.specs.Staging.{staged_parts}
use Rattle.df_catalogue.proofs.FrameChangeFacts.{views-kept}
use Rattle.df_catalogue.proofs.StagingFacts.{can-commit, committed, nothing-staged, removal-committed, view-committed}
use Rattle.df_catalogue.proofs.catalogue.Catalogue.commit_views.Goals as goal

pub add_view-requires : goal.add_view-requires
add_view-requires g c =
    let parts = c.self.inside in
    let view = c.in-Some-NewView.view in
    let is : parts.staged ≡ Some (NewView view) = cc (c.take.ensures.value, c.in-Some-NewView.is, c.in-Some-NewView.field-0-is) in
    let sound = can-commit parts.frames.items parts.views.items _ parts.staged (NewView view) c.self.invariant.staging is in
    omega (arith, sound.room, parts.views.ok.0)

pub remove_view-requires : goal.remove_view-requires
remove_view-requires g c =
    let parts = c.self.inside in
    let at = c.in-Some-OldView.at in
    let is : parts.staged ≡ Some (OldView at) = cc (c.take.ensures.value, c.in-Some-OldView.is, c.in-Some-OldView.field-0-is) in
    (can-commit parts.frames.items parts.views.items _ parts.staged (OldView at) c.self.invariant.staging is).within

pub invariant_of-self : goal.invariant_of-self
invariant_of-self g c =
    let parts = c.self.inside in
    let view = c.in-Some-NewView.view in
    let is : parts.staged ≡ Some (NewView view) = cc (c.take.ensures.value, c.in-Some-NewView.is, c.in-Some-NewView.field-0-is) in
    let sound = can-commit parts.frames.items parts.views.items _ parts.staged (NewView view) c.self.invariant.staging is in
    let more = view-committed parts.frames.items parts.views.items _ view _ _ _ _ c.self.invariant.parts sound in
    let kept = views-kept _ _ _ c.add_view.new.views.items _ _ _ _ more c.add_view.ensures.same (c.add_view.ensures.live _ more.live) in
    nothing-staged _ _ _ _ _ _ _ _ c.take.ensures.after kept.1

pub invariant_of-self-in-Some-OldView : goal.invariant_of-self-in-Some-OldView
invariant_of-self-in-Some-OldView g c =
    let parts = c.self.inside in
    let at = c.in-Some-OldView.at in
    let is : parts.staged ≡ Some (OldView at) = cc (c.take.ensures.value, c.in-Some-OldView.is, c.in-Some-OldView.field-0-is) in
    let sound = can-commit parts.frames.items parts.views.items _ parts.staged (OldView at) c.self.invariant.staging is in
    let fewer = removal-committed parts.frames.items parts.views.items at _ _ _ _ c.self.invariant.parts sound in
    let kept = views-kept _ _ _ c.remove_view.new.views.items _ _ _ _ fewer c.remove_view.ensures.same (c.remove_view.ensures.live _ fewer.live) in
    nothing-staged _ _ _ _ _ _ _ _ c.take.ensures.after kept.1

pub returns-in-Some-NewView : goal.returns-in-Some-NewView
returns-in-Some-NewView g c =
    let parts = c.self.inside in
    let view = c.in-Some-NewView.view in
    let is : parts.staged ≡ Some (NewView view) = cc (c.take.ensures.value, c.in-Some-NewView.is, c.in-Some-NewView.field-0-is) in
    let sound = can-commit parts.frames.items parts.views.items _ parts.staged (NewView view) c.self.invariant.staging is in
    let more = view-committed parts.frames.items parts.views.items _ view _ _ _ _ c.self.invariant.parts sound in
    let kept = views-kept _ _ _ c.add_view.new.views.items _ _ _ _ more c.add_view.ensures.same (c.add_view.ensures.live _ more.live) in
    record {
      made = committed parts.frames.items parts.views.items _ parts.work parts.staged (NewView view) parts.keeps _ _ _ c.self.view_is is kept.0 refl
          (ap (option_map (staged_parts parts.frames.items c.add_view.new.views.items parts.work)) c.take.ensures.after) kept.1.legal refl c.add_view.ensures.kept;
    }

pub returns-in-Some-OldView : goal.returns-in-Some-OldView
returns-in-Some-OldView g c =
    let parts = c.self.inside in
    let at = c.in-Some-OldView.at in
    let is : parts.staged ≡ Some (OldView at) = cc (c.take.ensures.value, c.in-Some-OldView.is, c.in-Some-OldView.field-0-is) in
    let sound = can-commit parts.frames.items parts.views.items _ parts.staged (OldView at) c.self.invariant.staging is in
    let fewer = removal-committed parts.frames.items parts.views.items at _ _ _ _ c.self.invariant.parts sound in
    let kept = views-kept _ _ _ c.remove_view.new.views.items _ _ _ _ fewer c.remove_view.ensures.same (c.remove_view.ensures.live _ fewer.live) in
    record {
      made = committed parts.frames.items parts.views.items _ parts.work parts.staged (OldView at) parts.keeps _ _ _ c.self.view_is is kept.0 refl
          (ap (option_map (staged_parts parts.frames.items c.remove_view.new.views.items parts.work)) c.take.ensures.after) kept.1.legal refl c.remove_view.ensures.kept;
    }
