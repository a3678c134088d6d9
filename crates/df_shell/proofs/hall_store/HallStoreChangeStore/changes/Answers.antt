use Rattle.std.proofs.Common.{subst}
use Rattle.df_shell.specs.Halls.{HallParts}
use Rattle.df_shell.specs.ToldChanges.{TellsInHall}
use Rattle.df_shell.proofs.ToldFacts.{known-tells}
use Rattle.df_shell.proofs.hall_store.HallStoreChangeStore.changes.Goals as goal

pub returns-in-Some : goal.returns-in-Some
returns-in-Some g c =
    let s = c.self.inside in
    subst (λ (p : HallParts). TellsInHall p.told c.args.view.now c.changes.result) c.self.view_is
    (known-tells s.told s.reader.1.1 _ c.args.view.now c.changes.result c.self.invariant.1 c.in-Some.is c.changes.ensures)
