use Rattle.std.proofs.Common.{◌∙◌, sym}
use Rattle.df_column.proofs.Places.{mapped_length}
use Rattle.df_column.proofs.min_max_search.MaskedRanked.count.Goals as goal

pub returns : goal.returns
returns g c = c.len.ensures ∙ sym (mapped_length g.T.CellValue.cell_of c.args.self.now)
