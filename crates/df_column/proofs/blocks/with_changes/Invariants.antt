use Rattle.std.proofs.Common.{◌≡◌, ◌-◌, ◌≤◌, ◌++◌, drop, map, take}
use Rattle.std.specs.Prelude.{T}
use Rattle.std.specs.FinMap.{is_sorted}
use Rattle.df_column.specs.Blocks.{AreOfDtypes, rows_of_blocks}
use Rattle.df_column.specs.Changes.{after_changes}
use Rattle.df_column.specs.Columns.{dtype_of_column}
use Rattle.df_column.specs.Rows.{AreNewRows}
use Rattle.df_column.specs.Tables.{AreRising, entry_change}
use Rattle.df_column.specs.Tags.{tag_cmp}
use Rattle.df_column.proofs.blocks.with_changes.Given as goal

abbrev pub invariant-loop-at : goal.invariant-loop-at
invariant-loop-at l =
    record {
      within : l.at ≤ l.range.end;
      sorted : T (is_sorted tag_cmp (rows_of_blocks (drop l.at (take l.range.end l.blocks))));
      rising : AreRising l.rest;
      fits : AreNewRows (map dtype_of_column l.columns) l.rest;
      rows : rows_of_blocks l.made ++ after_changes tag_cmp (rows_of_blocks (drop l.at (take l.range.end l.blocks))) (map entry_change l.rest)
          ≡ rows_of_blocks l.fn.out ++ after_changes tag_cmp (rows_of_blocks (drop l.range.start (take l.range.end l.blocks))) (map entry_change l.entries);
      types : AreOfDtypes (map dtype_of_column l.columns) l.fn.out → AreOfDtypes (map dtype_of_column l.columns) l.made;
    }

abbrev pub decreases-loop-at : goal.decreases-loop-at
decreases-loop-at l = l.range.end - l.at
