use Rattle.std.proofs.Common.{◌≡◌, ◌<◌, length, arith, subst, ap}
use Rattle.std.specs.Prelude.{Some, slice_get, slice_index_or}
use Rattle.std.proofs.lemmas.List.{length-map}
use Rattle.df_state.specs.FrameChanges.{change_of}
use Rattle.df_state.specs.States.{IsLegal}
use Rattle.df_state.specs.Transitions.{IsTransition}
use Rattle.df_catalogue.specs.KeptChanges.{HasChangesOf}
use Rattle.df_catalogue.specs.Work.{IsWorkOf}
use Rattle.df_state.proofs.DeskFacts.{desk-read, desks-long, frames-long}
use Rattle.df_state.proofs.FrameChangeFacts.{desks-transition}
use Rattle.df_state.proofs.StateFacts.{state-of}
use Rattle.df_catalogue.proofs.catalogue.Catalogue.change_frame_at.Given.{Over}
use Rattle.df_catalogue.proofs.catalogue.Catalogue.change_frame_at.Goals as goal

pub bounds-desks-frame : goal.bounds-desks-frame
bounds-desks-frame g c =
    let s = c.args.self.now.state in
    let some = desks-long c.args.desks.now s c.requires in
    let same = frames-long s (subst IsLegal (state-of c.self.view_is) c.self.invariant.parts.legal) in
    let long = ap (λ s. length s.frames) (state-of c.self.view_is) in
    let states = length-map c.self.inside.frames.items (λ f. f.state) in
    omega (arith, some, same, long, states, c.if-frame-len.false, c.len.ensures, c.self.inside.frames.ok.0)

-- the desk at the index is that of the frame
desk : (g : Over) (c : goal.After-change_frame g) → (slice_get c.args.desks.now c.args.frame ≡ Some (slice_index_or c.args.desks.now c.args.frame c.index-desks-frame.result)) × ((slice_index_or c.args.desks.now c.args.frame c.index-desks-frame.result).frame ≡ c.args.frame)
desk g c =
    let s = c.args.self.now.state in
    let long = ap (λ s. length s.frames) (state-of c.self.view_is) in
    let states = length-map c.self.inside.frames.items (λ f. f.state) in
    let within : c.args.frame < length s.frames = omega (arith, long, states, c.if-frame-len.false, c.len.ensures, c.self.inside.frames.ok.0) in
    desk-read c.args.desks.now s c.args.frame c.index-desks-frame.result c.requires
    (subst IsLegal (state-of c.self.view_is) c.self.invariant.parts.legal) within

pub returns-clause-state : goal.returns-clause-state
returns-clause-state g c =
    subst (λ f. IsTransition c.args.self.now.state (change_of f c.args.change) c.change_frame.result c.change_frame.new.self.state) (desk g c).1 c.change_frame.ensures.state

pub returns-clause-work : goal.returns-clause-work
returns-clause-work g c =
    subst (λ f. IsWorkOf c.args.self.now (change_of f c.args.change) c.change_frame.result c.change_frame.new.self) (desk g c).1 c.change_frame.ensures.work

pub returns-clause-changes : goal.returns-clause-changes
returns-clause-changes g c =
    subst (λ f. HasChangesOf c.args.self.now (change_of f c.args.change) c.change_frame.result c.change_frame.new.self) (desk g c).1 c.change_frame.ensures.changes

pub returns-clause-desks : goal.returns-clause-desks
returns-clause-desks g c =
    let at = desk g c in
    desks-transition c.args.desks.now c.args.frame c.index-desks-frame.result c.args.change c.change_frame.result c.change_frame.new.desk at.0 at.1 c.change_frame.ensures.desk
