use Rattle.std.proofs.Common.{◌≡◌, ◌*◌, ◌++◌, map, drop, length}
use Rattle.std.specs.Prelude.{T}
use Rattle.std.specs.List.{list_all}
use Rattle.std.specs.FinMap as finite
use Rattle.df_column.specs.Tables.{entry_change}
use Rattle.df_delta.specs.Deltas.{has_row}
use Rattle.df_delta.specs.Work.{evaluations, plus, IsWithin}
use Rattle.df_nodes.specs.RowOperators.{evaluations_of, row_wise_made}
use Rattle.df_nodes.proofs.row_wise.row_wise_changes.Given as goal

abbrev pub invariant-loop-entry : goal.invariant-loop-entry
invariant-loop-entry l =
    let made = row_wise_made l.operator in
    record {
      done : map entry_change l.entries.items ++ made (map entry_change (drop l.entry-index l.entry-items)) ≡ made (map entry_change l.entry-items);
      whole : map entry_change l.entry-items ≡ finite.entries l.delta;
      short : length l.entry-items ≡ finite.len l.delta;
      rows : T (list_all has_row l.entries.items);
      grows : IsWithin l.fn.meter l.meter;
      counted : IsWithin l.meter (plus l.fn.meter (evaluations (2 * l.entry-index * evaluations_of l.operator)));
    }
