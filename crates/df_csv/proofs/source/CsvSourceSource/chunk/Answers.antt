use Rattle.df_csv.proofs.PieceFacts.{count_of_source}
use Rattle.df_csv.proofs.source.CsvSourceSource.chunk.Goals as goal

pub type_piece-requires-clause-within : goal.type_piece-requires-clause-within
type_piece-requires-clause-within c = rw (count_of_source _ c.args.self.now c.self.view_is) at c.requires
