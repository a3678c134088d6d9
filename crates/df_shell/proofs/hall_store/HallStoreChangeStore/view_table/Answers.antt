use Rattle.std.proofs.Common.{ap, inl, inr, refl, subst, sym}
use Rattle.std.specs.Arc.{arc_value}
use Rattle.df_shell.specs.Halls.{HallParts, IsTableInHall}
use Rattle.df_shell.specs.ViewTables.{GivesTableIn}
use Rattle.df_shell.proofs.hall_store.HallStoreChangeStore.view_table.Goals as goal
use Rattle.df_shell.proofs.hall_store.HallStoreChangeStore.view_table.Goals.{in-Some, in-None}

pub returns : goal.returns
returns g c =
    let s = c.self.inside in
    let before : HallParts = record { told = s.reader.1.1; seen = s.reader.1.0; desks = s.desks.items } in
    let after : HallParts = record { told = c.snapshot.new.self.1.1; seen = c.snapshot.new.self.1.0; desks = s.desks.items } in
    let d = c.args.definitions.now in
    let name = c.args.view.now in
    subst (λ old. IsTableInHall old after d name c.match-snapshot.result) c.self.view_is
    (elim c.match-snapshot.branch as (λ _. IsTableInHall before after d name c.match-snapshot.result) [
      | in-Some w ↦
          let v = arc_value w.in-Some.version in
          let e = w.in-Some.ensures in
          inl (
            v,
            record { shows = e.shows; told = e.later.1; seen = e.later.0; same_told = e.told; desks = refl },
            subst (GivesTableIn d v.1 name) (sym w.result-is) (subst (λ x. GivesTableIn d x.1 name w.view_table.result) w.as_ref.ensures w.view_table.ensures),
          )
      | in-None w ↦ inr (w.result-is, ap (λ (r : _). record { told = r.1.1; seen = r.1.0; desks = s.desks.items }) w.in-None.ensures.none)
    ])
