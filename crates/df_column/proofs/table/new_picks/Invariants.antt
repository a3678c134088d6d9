use Rattle.std.proofs.Common.{◌≡◌, ◌++◌, ℕ, List, drop}
use Rattle.std.specs.Prelude.{T}
use Rattle.std.specs.List.{list_all}
use Rattle.df_value.specs.Rows.{row_fits}
use Rattle.df_value.specs.declared.cell.Cell.{Cell}
use Rattle.df_value.specs.declared.cell.CellType.{CellType}
use Rattle.df_column.specs.Picks.{AreWithin}
use Rattle.df_column.specs.Rows.{AreRows, picked_rows}
use Rattle.df_column.specs.Tables.{dtypes_of}
use Rattle.df_column.proofs.table.new_picks.Given as goal

abbrev pub invariant-loop-row : goal.invariant-loop-row
invariant-loop-row l =
    record {
      within : AreWithin 0 l.picks.items;
      rows : (columns : List (List Cell)) → picked_rows columns l.picks.items ++ drop l.row-index l.rows ≡ l.rows;
      fits : (schema : List (List ℕ × CellType)) → T (list_all (λ r. row_fits schema r.1) l.rows) → AreRows (dtypes_of schema) l.picks.items;
      left : (schema : List (List ℕ × CellType)) → T (list_all (λ r. row_fits schema r.1) l.rows) → T (list_all (λ r. row_fits schema r.1) (drop l.row-index l.rows));
    }
