use Rattle.std.proofs.Common.{◌≡◌, map}
use Rattle.std.specs.Prelude.{T}
use Rattle.std.specs.List.{list_all}
use Rattle.df_column.specs.Tables.{entry_change}
use Rattle.df_delta.specs.Deltas.{has_row}
use Rattle.df_delta.proofs.NoteMaps.{lean_list}
use Rattle.df_delta.proofs.notes.Notes.into_delta.Given as goal

abbrev pub invariant-loop-tag : goal.invariant-loop-tag
invariant-loop-tag l =
    record {
      changes : map entry_change l.entries.items ≡ lean_list l.yielded;
      rows : T (list_all has_row l.entries.items);
    }
