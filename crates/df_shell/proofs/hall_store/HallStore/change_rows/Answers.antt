use Rattle.std.proofs.Common.{◌∙◌, ◌<◌, List, ap, arith, length, refl, subst, sym}
use Rattle.std.proofs.lemmas.List.{length-set, with_items_is}
use Rattle.std.proofs.lemmas.Option.{slice_get_past}
use Rattle.std.specs.Vec.{with_items}
use Rattle.std.specs.Prelude.{Some, slice_set}
use Rattle.df_state.specs.Desks.{DeskParts}
use Rattle.df_state.specs.FrameChanges.{change_of}
use Rattle.df_shell.proofs.DesksFacts.{InOrder, no-desk}
use Rattle.df_shell.proofs.HallFacts.{desk-answered}
use Rattle.df_shell.specs.Changing.{IsAnswered}
use Rattle.df_shell.specs.Halls.{HallParts, HasNoDesk}
use Rattle.df_versions.specs.Answered.{told_states}
use Rattle.df_shell.proofs.hall_store.HallStore.change_rows.Goals as goal
use Rattle.df_shell.proofs.hall_store.HallStore.change_rows.Given.{Over}

abbrev before : (g : Over) (c : goal.After-self-1 g) → HallParts
before g c = record { told = c.self.inside.reader.1.1; seen = c.self.inside.reader.1.0; desks = c.self.inside.desks.items }

abbrev held : (g : Over) (c : goal.After-self-1 g) → List DeskParts
held g c = slice_set c.as_mut_slice.result.now c.args.frame c.change_rows.new.desk

-- the answer through the desk, and the order of the desks
through :
    (g : Over) (c : goal.After-self-1 g) →
    IsAnswered (before g c) (change_of c.args.frame c.args.change) (Some c.change_rows.result) (record (before g c) { desks = held g c }) × InOrder (held g c)
through g c =
    let s = c.self.inside in
    let within : c.args.frame < length s.desks.items = omega (arith, c.if-frame-len.false, c.len.ensures, s.desks.ok.0) in
    desk-answered s.told _ (before g c) c.as_mut_slice.result.now (held g c) c.args.frame c.index-as_mut_slice-frame.result c.change_rows.new.desk
    c.args.change c.change_rows.result c.self.invariant.1 (ap told_states c.as_ref-told.ensures.value) c.as_mut_slice.ensures.value
    c.self.invariant.2 within refl c.change_rows.ensures.answer c.change_rows.ensures.desk c.change_rows.ensures.same_desk

pub returns-then-frame-len : goal.returns-then-frame-len
returns-then-frame-len g c =
    let s = c.self.inside in
    let none = slice_get_past s.desks.items c.args.frame (omega (arith, c.if-frame-len.true, c.len.ensures, s.desks.ok.0)) in (
      subst (λ (p : HallParts). HasNoDesk p.desks (change_of c.args.frame c.args.change)) c.self.view_is (no-desk s.desks.items c.args.frame c.args.change none),
      refl,
    )

pub invariant_of-self : goal.invariant_of-self
invariant_of-self g c =
    let long = length-set c.as_mut_slice.result.now c.args.frame c.change_rows.new.desk ∙ c.as_mut_slice.ensures.len in
    (c.self.invariant.0, c.self.invariant.1, subst InOrder (sym (with_items_is c.self.inside.desks (held g c) long)) (through g c).1, c.self.invariant.3)

pub returns : goal.returns
returns g c =
    let change = change_of c.args.frame c.args.change in
    let long = length-set c.as_mut_slice.result.now c.args.frame c.change_rows.new.desk ∙ c.as_mut_slice.ensures.len in
    let new : List DeskParts → HallParts = λ ds. record (before g c) { desks = ds } in
    subst (λ old. IsAnswered old change (Some c.change_rows.result) (new (with_items c.self.inside.desks (held g c)).items)) c.self.view_is
    (subst (λ ds. IsAnswered (before g c) change (Some c.change_rows.result) (new ds)) (sym (with_items_is c.self.inside.desks (held g c) long)) (through g c).0)
