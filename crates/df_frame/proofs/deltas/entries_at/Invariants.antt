use Rattle.std.proofs.Common.{◌≡◌, map}
use Rattle.std.specs.Prelude.{T}
use Rattle.std.specs.List.{list_all}
use Rattle.df_column.specs.Tables.{entry_change}
use Rattle.df_delta.specs.Deltas.{has_row}
use Rattle.df_frame.proofs.DeltaFacts.{changes_to}
use Rattle.df_frame.proofs.deltas.entries_at.Given as goal

abbrev pub invariant-loop-tag : goal.invariant-loop-tag
invariant-loop-tag l = record {
  changes : map entry_change l.entries.items ≡ changes_to l.table.rows l.yielded;
  rows : T (list_all has_row l.entries.items);
}
