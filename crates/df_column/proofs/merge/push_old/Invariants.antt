use Rattle.std.proofs.Common.{◌≡◌, ◌++◌, ◌-◌, List, take, drop, length}
use Rattle.df_value.specs.declared.cell.Cell.{Cell}
use Rattle.df_value.specs.declared.cell.CellType.{CellType}
use Rattle.df_column.specs.Picks.{AreWithin}
use Rattle.df_column.specs.Rows.{AreRows, picked_rows, tagged_rows}
use Rattle.df_column.proofs.merge.push_old.Given as goal

abbrev pub invariant-loop-at : goal.invariant-loop-at
invariant-loop-at l =
    record {
      within : AreWithin (length l.tags) l.out.items;
      rows : (columns : List (List Cell)) → picked_rows columns l.out.items ≡ picked_rows columns l.initial.out.items ++ take (l.at - l.from) (drop l.from (tagged_rows l.tags columns));
      fits : (dtypes : List CellType) → AreRows dtypes l.initial.out.items → AreRows dtypes l.out.items;
    }
