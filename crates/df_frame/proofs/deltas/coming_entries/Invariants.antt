use Rattle.std.proofs.Common.{◌≡◌, ◌+◌, length, map}
use Rattle.std.specs.Prelude.{T}
use Rattle.std.specs.List.{enumerate_from, list_all}
use Rattle.df_column.specs.Tables.{entry_change}
use Rattle.df_delta.specs.Deltas.{has_row}
use Rattle.df_frame.specs.FrameTables.{coming_row}
use Rattle.df_frame.proofs.deltas.coming_entries.Given as goal

abbrev pub invariant-loop-row : goal.invariant-loop-row
invariant-loop-row l = record {
  number : l.number ≡ l.fn.first + length l.yielded;
  changes : map entry_change l.entries.items ≡ map coming_row (enumerate_from l.fn.first l.yielded);
  rows : T (list_all has_row l.entries.items);
}
