use Rattle.std.proofs.Common.{List, ℕ, ap, inl, inr, refl, subst, sym}
use Rattle.std.specs.Arc.{arc_value}
use Rattle.std.specs.Prelude.{Result}
use Rattle.std.specs.Global.{Vec}
use Rattle.df_state.specs.Desks.{DeskParts}
use Rattle.df_state.specs.Pictures.{PictureParts}
use Rattle.df_shell.specs.Halls.{HallParts, IsAnswerOfHall}
use Rattle.df_session.specs.Told.{IsTold}
use Rattle.df_shell.specs.Versions.{refusal_with_hall, text_of_version}
use Rattle.df_session.specs.declared.refusal.Refusal.{Refusal}
use Rattle.df_shell.proofs.hall_store.HallStoreViewStore.answer.Goals as goal
use Rattle.df_shell.proofs.hall_store.HallStoreViewStore.answer.Goals.{in-Some, in-None}

pub returns : goal.returns
returns g c =
    let s = c.self.inside in
    let before : HallParts = record { told = s.reader.1.1; seen = s.reader.1.0; desks = s.desks.items } in
    let after : HallParts = record { told = c.snapshot.new.self.1.1; seen = c.snapshot.new.self.1.0; desks = s.desks.items } in
    let d = c.args.definitions.now in
    let q = c.args.question in
    let told : List DeskParts → ℕ × PictureParts → Result (Vec ℕ) Refusal → Type 0 = λ ds v r. IsTold (text_of_version d ds v q) (refusal_with_hall q) r in
    subst (λ old. IsAnswerOfHall old after d q c.match-snapshot.result) c.self.view_is
    (elim c.match-snapshot.branch as (λ _. IsAnswerOfHall before after d q c.match-snapshot.result) [
      | in-Some w ↦
          let v = arc_value w.in-Some.version in
          let e = w.in-Some.ensures in
          inl (
            v,
            record { shows = e.shows; told = e.later.1; seen = e.later.0; same_told = e.told; desks = refl },
            subst (told s.desks.items v) (sym w.result-is)
                (subst (λ x. told s.desks.items x w.answer_from_version.result) w.as_ref.ensures
                (subst (λ ds. told ds w.as_ref.result.now w.answer_from_version.result) w.as_slice-desks.ensures.value w.answer_from_version.ensures)),
          )
      | in-None w ↦ inr (w.result-is, ap (λ (r : _). record { told = r.1.1; seen = r.1.0; desks = s.desks.items }) w.in-None.ensures.none)
    ])
