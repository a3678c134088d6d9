use Rattle.std.proofs.Common.{◌≡◌, ◌∙◌, [], Some, ap, arith, get_or, length, map, sym}
use Rattle.df_column.specs.Blocks.{block_rows}
use Rattle.df_column.specs.Columns.{column_cells}
use Rattle.df_column.specs.declared.tag.Tag.{Tag}
use Rattle.df_column.proofs.BlockLemmas.{even_at}
use Rattle.df_column.proofs.MinMaxLemmas.{above_end}
use Rattle.df_column.proofs.Places.{mapped_at}
use Rattle.df_column.proofs.RowLemmas.{length_rows}
use Rattle.df_column.proofs.SkippingLemmas.{block_above_step}
use Rattle.df_column.proofs.skipping.push_tags_above.Goals as goal

pub push_if_above-requires : goal.push_if_above-requires
push_if_above-requires c =
    let b = c.args.block.now in
    let column = c.index-columns-index.result in
    let tags = ap length c.tags-row_tags.ensures.tags in
    let is : column ≡ get_or b.columns c.args.index column = c.index-columns-index.is ∙ ap (λ cs. get_or cs c.args.index column) c.columns.ensures.columns in
    let long = ap (λ c. length (column_cells c)) is ∙ even_at (length b.tags) b.columns c.args.index column c.columns.ensures.even c.requires in
    omega (arith, long, tags, c.loop-at-test.true)

pub loop-at-preserved : goal.loop-at-preserved
loop-at-preserved c =
    let b = c.args.block.now in
    let column = c.index-columns-index.result in
    let tags = ap length c.tags-row_tags.ensures.tags in
    let is : column ≡ get_or b.columns c.args.index column = c.index-columns-index.is ∙ ap (λ cs. get_or cs c.args.index column) c.columns.ensures.columns in
    let cells : get_or (map column_cells b.columns) c.args.index [] ≡ column_cells column = mapped_at column_cells b.columns c.args.index [] column c.requires ∙ ap column_cells (sym is) in
    let none : Tag = record { first = 0; second = 0; third = 0 } in
    let made = rw (c.get.ensures none, c.tags-row_tags.ensures.tags) at c.in_ok-push_if_above.ensures in
    block_above_step b c.args.index c.loop-at.at c.args.value.now (column_cells column) none c.loop-at.tags.items c.push_if_above.new.tags.items _ c.requires (omega (arith, tags, c.loop-at-test.true)) cells made c.loop-at.invariant

pub returns : goal.returns
returns c =
    let b = c.args.block.now in
    let rows = length_rows b.tags (map column_cells b.columns) in
    let tags = ap length c.tags-row_tags.ensures.tags in
    above_end (Some c.args.index) c.args.value.now (block_rows b) c.loop-at.at c.loop-at.tags.items _ (omega (arith, rows, tags, c.loop-at-test.false)) c.loop-at.invariant
