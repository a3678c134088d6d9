use Rattle.std.proofs.Common.{◌≡◌, ◌≤◌, ◌+◌, ◌++◌, map, drop, length}
use Rattle.df_value.specs.declared.cell.CellType.TheVariants as dtype
use Rattle.df_column.specs.Picks.{AreWithin, AreFit, picked_cells}
use Rattle.df_column.specs.Sizes.{most_rows}
use Rattle.df_column.specs.Lookups.{IsLookup}
use Rattle.df_column.specs.Texts.{ArePlaces, pool_text}
use Rattle.df_column.specs.ValueCells.{text_cell}
use Rattle.df_column.proofs.texts.adding.push_rows.Given as goal

abbrev pub invariant-loop-pick : goal.invariant-loop-pick
invariant-loop-pick l =
    record {
      sound : ArePlaces l.pool l.places;
      few : length l.places + length (drop l.pick-index l.picks) ≤ most_rows;
      lookup : IsLookup l.pool l.lookup;
      within : AreWithin (length l.old) (drop l.pick-index l.picks);
      fits : AreFit dtype.Text l.column (drop l.pick-index l.picks);
      whole : map text_cell (map (pool_text l.pool) l.places) ++ picked_cells (map text_cell l.old) l.column (drop l.pick-index l.picks)
          ≡ map text_cell (map (pool_text l.initial.pool) l.initial.places) ++ picked_cells (map text_cell l.old) l.column l.picks;
    }
