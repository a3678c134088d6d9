use Rattle.std.proofs.Common.{sym, ◌∙◌}
use Rattle.df_csv.proofs.PieceFacts.{count_of_source}
use Rattle.df_csv.proofs.source.CsvSourceSource.chunks.Goals as goal

pub returns : goal.returns
returns c = c.count_pieces.ensures ∙ sym (count_of_source _ c.args.self.now c.self.view_is)
