use Rattle.std.proofs.Common.{◌≡◌, ◌∙◌, ◌<◌, List, ap, arith, length, refl, subst, sym}
use Rattle.std.proofs.lemmas.List.{length-set, with_items_is}
use Rattle.std.specs.Vec.{with_items}
use Rattle.std.specs.Prelude.{Some, slice_set}
use Rattle.df_state.specs.Desks.{DeskParts}
use Rattle.df_state.specs.FrameChanges.{change_of}
use Rattle.df_versions.specs.Answered.{told_states}
use Rattle.dataframes.proofs.BooksFacts.{desk-answered, told-length}
use Rattle.dataframes.proofs.DesksFacts.{frame-there, no-frame}
use Rattle.dataframes.specs.Books.{BooksParts, InOrder, IsThrough, states_told}
use Rattle.dataframes.proofs.books.Books.through_desk.Goals as goal
use Rattle.dataframes.proofs.books.Books.through_desk.Given.{Over}

abbrev before : (g : Over) (c : goal.After-self-1 g) → BooksParts
before g c = record { told = states_told c.self.inside.told; desks = c.self.inside.desks.items }

abbrev held : (g : Over) (c : goal.After-self-1 g) → List DeskParts
held g c = slice_set c.as_mut_slice.result.now c.args.frame c.change_rows.new.desk

-- the answer through the desk, and the order of the desks
through :
    (g : Over) (c : goal.After-self-1 g) →
    IsThrough g.J.Naming.schemas (before g c) (change_of c.args.frame c.args.change) (Some c.change_rows.result) (record (before g c) { desks = held g c }) × InOrder (held g c)
through g c =
    let s = c.self.inside in
    let within : c.args.frame < length s.desks.items = omega (arith, c.if-frame-len.false, c.len.ensures, s.desks.ok.0) in
    desk-answered g.J.Naming.schemas _ (before g c) c.as_mut_slice.result.now (held g c) c.args.frame c.index-as_mut_slice-frame.result c.change_rows.new.desk
    c.args.change c.change_rows.result (ap told_states c.as_ref-told.ensures.value ∙ told-length s.told) c.as_mut_slice.ensures.value
    c.self.invariant.0 within refl c.change_rows.ensures.answer c.change_rows.ensures.desk c.change_rows.ensures.same_desk

-- the desk is of the frame that is asked for
pub change_rows-requires : goal.change_rows-requires
change_rows-requires g c =
    let lent : List DeskParts = c.as_mut_slice.result.now in
    let order : InOrder lent = subst InOrder (sym c.as_mut_slice.ensures.value) c.self.invariant.0 in
    let within : c.args.frame < length lent = omega (arith, c.if-frame-len.false, c.len.ensures, c.self.inside.desks.ok.0, ap length c.as_mut_slice.ensures.value) in
    let there = frame-there lent c.args.frame c.index-as_mut_slice-frame.result order within in
    record { allowed = subst (λ f. g.J.Naming.allows (change_of f c.args.change)) (sym there) c.requires }

pub returns-then-frame-len : goal.returns-then-frame-len
returns-then-frame-len g c =
    let s = c.self.inside in
    (no-frame (length g.J.Naming.schemas) c.args.frame c.args.change (omega (arith, c.if-frame-len.true, c.len.ensures, c.self.invariant.1)), refl)

pub invariant_of-self : goal.invariant_of-self
invariant_of-self g c =
    let s = c.self.inside in
    let long = length-set c.as_mut_slice.result.now c.args.frame c.change_rows.new.desk ∙ c.as_mut_slice.ensures.len in
    let is = with_items_is s.desks (held g c) long in
    let count : length (held g c) ≡ length g.J.Naming.schemas = omega (arith, long, s.desks.ok.0, c.self.invariant.1) in
    (subst InOrder (sym is) (through g c).1, ap length is ∙ count)

pub returns : goal.returns
returns g c =
    let s = c.self.inside in
    let change = change_of c.args.frame c.args.change in
    let long = length-set c.as_mut_slice.result.now c.args.frame c.change_rows.new.desk ∙ c.as_mut_slice.ensures.len in
    let new : List DeskParts → BooksParts = λ ds. record (before g c) { desks = ds } in
    subst (λ old. IsThrough g.J.Naming.schemas old change (Some c.change_rows.result) (new (with_items s.desks (held g c)).items)) c.self.view_is
    (subst (λ ds. IsThrough g.J.Naming.schemas (before g c) change (Some c.change_rows.result) (new ds)) (sym (with_items_is s.desks (held g c) long)) (through g c).0)
