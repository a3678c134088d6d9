use Rattle.std.proofs.Common.{map}
use Rattle.df_column.specs.Columns.{column_cells}
use Rattle.df_column.proofs.BlockMinMax.{no_known}
use Rattle.df_column.proofs.table.blocks_of.Goals as goal

pub with_parts-requires-clause-known : goal.with_parts-requires-clause-known
with_parts-requires-clause-known c = rw c.deref.ensures.value (no_known (map column_cells c.in_ok-columns.columns.items) c.in_ok-columns.ensures.even)

pub with_parts-requires-clause-rows : goal.with_parts-requires-clause-rows
with_parts-requires-clause-rows c = rw (c.deref.ensures.value, c.deref-2.ensures.value, c.in_ok-columns.ensures.types) (c.in_ok-picks.ensures.fits c.args.schema.now c.requires)
