use Rattle.std.proofs.Common.{◌∙◌, ap, get_or, map}
use Rattle.df_column.specs.Columns.{column_cells}
use Rattle.df_column.proofs.RowTagLemmas.{head_of}
use Rattle.df_column.proofs.block.Block.first.Goals as goal

pub returns : goal.returns
returns c =
    let b = c.args.self.now in
    head_of b.tags (map column_cells b.columns) c.get.result c.tags.ensures.some (c.get.ensures c.get.result ∙ ap (λ ts. get_or ts 0 c.get.result) c.tags.ensures.tags)
