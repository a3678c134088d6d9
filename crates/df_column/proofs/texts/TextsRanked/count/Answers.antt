use Rattle.std.proofs.Common.{◌∙◌, sym}
use Rattle.df_column.specs.ValueCells.{text_cell}
use Rattle.df_column.proofs.Places.{mapped_length}
use Rattle.df_column.proofs.texts.TextsRanked.count.Goals as goal

pub returns : goal.returns
returns c = c.len.ensures ∙ sym (mapped_length text_cell c.args.self.now)
