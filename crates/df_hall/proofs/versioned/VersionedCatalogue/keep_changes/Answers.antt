use Rattle.std.proofs.Common.{Some, ap, sym, ◌∙◌}
use Rattle.df_hall.proofs.LastChangeFacts.{forgotten-last}
use Rattle.df_hall.proofs.versioned.VersionedCatalogue.keep_changes.Goals as goal

pub invariant_of-self : goal.invariant_of-self
invariant_of-self g c =
    let kept = c.keep_changes.ensures in
    (c.self.invariant.0 ∙ ap Some (sym kept.state), c.self.invariant.1, forgotten-last c.self.inside.publisher c.keep_changes.new.self kept.changes)
