use Rattle.std.proofs.Common.{arith, length, map, refl}
use Rattle.df_column.specs.Columns.{column_cells, dtype_of_column}
use Rattle.df_column.specs.Picks.{is_within}
use Rattle.df_column.specs.Rows.{is_new_row, tagged_rows}
use Rattle.df_column.proofs.BlockRowLemmas.{adds_same}
use Rattle.df_column.proofs.PartLemmas.{all_part, adds_part}
use Rattle.df_column.proofs.RowLemmas.{length_rows}
use Rattle.df_column.proofs.SpliceLemmas.{spliced_whole}
use Rattle.df_column.proofs.blocks.with_parts.Goals as goal

pub with_spliced-requires-clause-within : goal.with_spliced-requires-clause-within
with_spliced-requires-clause-within c = all_part (λ p. is_within _ p.origin) _ c.loop-from.from c.args.picks.now c.requires.within

pub with_spliced-requires-clause-rows : goal.with_spliced-requires-clause-rows
with_spliced-requires-clause-rows c = all_part (λ p. is_new_row (map dtype_of_column c.args.columns.now) p.origin) _ c.loop-from.from c.args.picks.now c.requires.rows

pub loop-from-preserved : goal.loop-from-preserved
loop-from-preserved c =
    let columns = map column_cells c.args.columns.now in
    let long = length_rows c.args.tags.now columns in
    let made = adds_same _ _ _ _ _ _ refl (spliced_whole (length c.args.tags.now) _ (tagged_rows c.args.tags.now columns) (omega (arith, long))) (rw c.len.ensures at c.in_ok-made.ensures) in
    record {
      within = omega arith;
      adds = adds_part (map dtype_of_column c.args.columns.now) columns c.args.picks.now c.loop-from.from c.min.result _ _ _ _ (omega arith) c.loop-from.invariant.adds made;
    }
