use Rattle.std.proofs.Common.{◌≡◌, sym, ◌∙◌, ap, subst, List}
use Rattle.df_state.specs.declared.state.State.{State}
use Rattle.df_versions.specs.Histories.{MayFollow}
use Rattle.df_versions.proofs.Adding.{adds_moves}
use Rattle.df_versions.proofs.history.History.extend.Goals as goal

pub compare_exchange-found-requires : goal.compare_exchange-found-requires
compare_exchange-found-requires g c =
    let h = c.requires.head in
    let offer = c.plain-offer.ensures in
    let pen = c.no_pen-pen.ensures in
    let next : State = g.M.Plain.ask c.args.about.now in
    let book : c.self.inside.seen.book ≡ c.args.head.now.book = ap (λ p. p.0) c.self.view_is ∙ sym (ap (λ w. w.book) h) in
    let may : MayFollow c.self.inside.seen.log next = subst (λ (l : List State). MayFollow l next) (sym (ap (λ p. p.1) c.self.view_is)) c.requires.lawful in (
      ap (λ w. w.tracked) h,
      book,
      pen.0 ∙ book,
      offer.0,
      rw (ap (λ w. w.key) h, pen.1, offer.1, offer.3, c.requires.plain) (adds_moves c.self.inside.seen.log next c.self.inside.states (sym c.self.invariant.0) may),
    )
