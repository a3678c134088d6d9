use Rattle.std.proofs.Common.{ap, ◌∙◌, map}
use Rattle.std.proofs.lemmas.Result.{IfOk-weaker}
use Rattle.std.specs.Arc.{arc_value}
use Rattle.df_column.specs.Blocks.{block_rows}
use Rattle.df_column.specs.Columns.{dtype_of_column}
use Rattle.df_column.proofs.BlockRowLemmas.{adds_block}
use Rattle.df_column.proofs.blocks.with_spliced.Goals as goal

pub returns : goal.returns
returns c =
    let made = c.in_ok-block-2.ensures.ok in
    IfOk-weaker c.pushed.result _ _
    (λ list h. adds_block _ _ _ _ (arc_value c.in_ok-block-2.block) h (ap block_rows made ∙ c.in_ok-block.ensures.rows) (ap (λ b. map dtype_of_column b.columns) made ∙ c.in_ok-block.ensures.dtypes))
    c.pushed.ensures
