use Rattle.std.proofs.Common.{arith, map}
use Rattle.std.specs.Arc.{arc_value}
use Rattle.df_column.specs.Columns.{column_cells}
use Rattle.df_column.proofs.BlockMinMax.{known_of}
use Rattle.df_column.proofs.PartLemmas.{rising_tags}
use Rattle.df_column.proofs.blocks.with_merged.Goals as goal

pub merge_changed-requires-clause-tags : goal.merge_changed-requires-clause-tags
merge_changed-requires-clause-tags c = rw (c.tags-tags.ensures.tags, c.deref.ensures) (rising_tags (arc_value c.args.block.now).tags (map column_cells (arc_value c.args.block.now).columns) c.requires.rows)

pub merge-requires-clause-tags : goal.merge-requires-clause-tags
merge-requires-clause-tags c = rw (c.tags-tags.ensures.tags, c.deref.ensures) (rising_tags (arc_value c.args.block.now).tags (map column_cells (arc_value c.args.block.now).columns) c.requires.rows)

pub with_spliced-requires-clause-known : goal.with_spliced-requires-clause-known
with_spliced-requires-clause-known c = rw (c.columns-columns.ensures.columns, c.deref-2.ensures) (known_of _ _ (rw c.deref-3.ensures at c.min_max-known.ensures))

pub with_parts-requires-clause-known : goal.with_parts-requires-clause-known
with_parts-requires-clause-known c = rw (c.columns-columns.ensures.columns, c.deref-2.ensures) (known_of _ _ (rw c.deref-3.ensures at c.min_max-known.ensures))

pub overflow_sub-len : goal.overflow_sub-len
overflow_sub-len c = omega (arith, c.in_ok-low.ensures.ordered, c.in_ok-low.ensures.in_range)

pub overflow_add-low : goal.overflow_add-low
overflow_add-low c = omega (arith, c.in_ok-low.ensures.ordered, c.in_ok-low.ensures.in_range)

pub with_spliced-requires-clause-ordered : goal.with_spliced-requires-clause-ordered
with_spliced-requires-clause-ordered c = omega (arith, c.in_ok-low.ensures.ordered, c.in_ok-low.ensures.in_range)

pub with_spliced-requires-clause-in_range : goal.with_spliced-requires-clause-in_range
with_spliced-requires-clause-in_range c = omega (arith, c.in_ok-low.ensures.ordered, c.in_ok-low.ensures.in_range)

pub with_spliced-requires-clause-some : goal.with_spliced-requires-clause-some
with_spliced-requires-clause-some c = omega arith

pub with_spliced-requires-clause-few : goal.with_spliced-requires-clause-few
with_spliced-requires-clause-few c = omega arith
