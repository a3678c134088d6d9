use Rattle.df_hall.proofs.LastChangeFacts.{told-change}
use Rattle.df_hall.proofs.versioned.VersionedCatalogue.last_changes.Goals as goal

pub returns : goal.returns
returns g c =
    told-change c.self.inside.publisher c.args.told.now c.self.inside.catalogue c.args.name.now c.view_changes.result c.self.invariant.0 c.self.invariant.2
    (c.is_last.ensures.last c.if-not-is_last.false) c.view_changes.ensures.changes c.view_changes.ensures.table c.view_changes.ensures.schema
