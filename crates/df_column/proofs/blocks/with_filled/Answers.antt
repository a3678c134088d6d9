use Rattle.std.proofs.Common.{map}
use Rattle.std.proofs.lemmas.Result.{IfOk-weaker}
use Rattle.std.specs.Arc.{arc_value}
use Rattle.df_column.specs.Blocks.{block_rows}
use Rattle.df_column.specs.Columns.{column_cells, dtype_of_column}
use Rattle.df_column.specs.Rows.{is_new_row}
use Rattle.df_column.proofs.BehindLemmas.{adds_parts, within_rest}
use Rattle.df_column.proofs.BlockMinMax.{known_of}
use Rattle.df_column.proofs.PartLemmas.{all_drop}
use Rattle.df_column.proofs.blocks.with_filled.Goals as goal

pub with_parts-requires-clause-known : goal.with_parts-requires-clause-known
with_parts-requires-clause-known c = rw (c.columns-columns.ensures.columns, c.deref-2.ensures) (known_of _ _ (rw c.deref-3.ensures at c.min_max-known.ensures))

pub with_parts-requires-clause-within : goal.with_parts-requires-clause-within
with_parts-requires-clause-within c = within_rest _ _ c.args.picks.now _ c.split_at.ensures.back c.requires.within

pub with_parts-requires-clause-rows : goal.with_parts-requires-clause-rows
with_parts-requires-clause-rows c =
    rw (c.columns-columns.ensures.columns, c.deref-2.ensures, c.split_at.ensures.back)
    (all_drop (λ p. is_new_row (map dtype_of_column (arc_value c.args.block.now).columns) p.origin) _ c.args.picks.now c.requires.rows)

pub returns : goal.returns
returns c =
    let made = rw (c.columns-columns.ensures.columns, c.deref-2.ensures) at c.with_parts.ensures in
    IfOk-weaker c.with_parts.result _ _
    (λ list h. adds_parts (map dtype_of_column (arc_value c.args.block.now).columns) (map column_cells (arc_value c.args.block.now).columns) (block_rows (arc_value c.args.block.now))
    c.split_at.result.0.now c.split_at.result.1.now c.args.picks.now _ _ _ _ c.split_at.ensures.front c.split_at.ensures.back c.in_ok-grown.ensures h)
    made
