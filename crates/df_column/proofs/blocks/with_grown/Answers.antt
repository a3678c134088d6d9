use Rattle.std.proofs.Common.{arith, length, map, refl}
use Rattle.std.proofs.lemmas.Result.{IfOk-weaker}
use Rattle.std.specs.Arc.{arc_value}
use Rattle.df_column.specs.Blocks.{block_rows}
use Rattle.df_column.specs.Columns.{column_cells}
use Rattle.df_column.proofs.BehindLemmas.{within_any}
use Rattle.df_column.proofs.BlockMinMax.{known_of}
use Rattle.df_column.proofs.BlockRowLemmas.{adds_same}
use Rattle.df_column.proofs.RowLemmas.{length_rows}
use Rattle.df_column.proofs.SpliceLemmas.{spliced_behind}
use Rattle.df_column.proofs.blocks.with_grown.Goals as goal

pub with_spliced-requires-clause-known : goal.with_spliced-requires-clause-known
with_spliced-requires-clause-known c = rw (c.columns-columns.ensures.columns, c.deref-2.ensures) (known_of _ _ (rw c.deref-3.ensures at c.min_max-known.ensures))

pub with_spliced-requires-clause-within : goal.with_spliced-requires-clause-within
with_spliced-requires-clause-within c = within_any _ c.args.picks.now c.requires.within

pub returns : goal.returns
returns c =
    let block = arc_value c.args.block.now in
    let long = length_rows block.tags (map column_cells block.columns) in
    let made = rw (c.len-rows.ensures, c.tags-tags.ensures.tags, c.deref.ensures, c.columns-columns.ensures.columns, c.deref-2.ensures) at c.with_spliced.ensures in
    IfOk-weaker c.with_spliced.result _ _
    (λ list h. adds_same _ _ _ _ _ _ refl (spliced_behind (length block.tags) _ (block_rows block) (omega (arith, long))) h)
    made
