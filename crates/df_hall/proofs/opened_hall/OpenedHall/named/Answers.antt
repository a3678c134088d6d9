use Rattle.df_hall.proofs.LastChangeFacts.{none-last}
use Rattle.df_hall.proofs.opened_hall.OpenedHall.named.Goals as goal

pub over-catalogue-requires-clause-changes : goal.over-catalogue-requires-clause-changes
over-catalogue-requires-clause-changes g c = none-last c.named-publisher.result.0 c.self.inside.catalogue c.self.invariant.1
