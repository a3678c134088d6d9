use Rattle.std.proofs.Common.{◌≡◌, ◌≤◌, ◌++◌, List, map, take, drop, length}
use Rattle.df_value.specs.declared.cell.Cell.{Cell}
use Rattle.df_value.specs.declared.cell.CellType.{CellType}
use Rattle.df_column.specs.Changes.{after_changes}
use Rattle.df_column.specs.Picks.{AreWithin}
use Rattle.df_column.specs.Rows.{AreNewRows, AreRows, picked_rows, tagged_rows}
use Rattle.df_column.specs.Tables.{AreRising, entry_change}
use Rattle.df_column.specs.Tags.{tag_cmp}
use Rattle.df_column.proofs.merge.merge_changed.Given as goal

abbrev pub invariant-loop-entry : goal.invariant-loop-entry
invariant-loop-entry l =
    record {
      ordered : l.low ≤ l.high;
      in_range : l.high ≤ length l.tags;
      within : AreWithin (length l.tags) l.picks.items;
      left : AreRising (drop l.entry-index l.entries);
      rows : (columns : List (List Cell)) →
          take l.low (tagged_rows l.tags columns) ++ (picked_rows columns l.picks.items ++ after_changes tag_cmp (drop l.high (tagged_rows l.tags columns)) (map entry_change (drop l.entry-index l.entries)))
          ≡ after_changes tag_cmp (tagged_rows l.tags columns) (map entry_change l.entries);
      fits : (dtypes : List CellType) → AreNewRows dtypes l.entries → AreRows dtypes l.picks.items;
      new_rows : (dtypes : List CellType) → AreNewRows dtypes l.entries → AreNewRows dtypes (drop l.entry-index l.entries);
    }
