use Rattle.df_column.proofs.FitLemmas.{blocks_fit}
use Rattle.df_column.proofs.ReadLemmas.{fitting_rows}
use Rattle.df_column.proofs.table.Table.schema.Goals as goal

pub returns-clause-sound : goal.returns-clause-sound
returns-clause-sound c = fitting_rows c.args.self.now _ _ c.self.view_is c.self.invariant.sorted (blocks_fit _ c.self.inside.blocks c.self.invariant.types)
