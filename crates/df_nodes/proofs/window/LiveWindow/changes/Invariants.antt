use Rattle.std.proofs.Common.{◌≡◌, ◌*◌, ◌++◌, map, drop, length}
use Rattle.std.specs.Prelude.{T}
use Rattle.std.specs.List.{list_all}
use Rattle.std.specs.FinMap as finite
use Rattle.df_column.specs.Tables.{entry_change}
use Rattle.df_delta.specs.Deltas.{has_row}
use Rattle.df_delta.specs.Work.{IsWithin, plus}
use Rattle.df_nodes.specs.Rolling.{rolling_output, windows}
use Rattle.df_nodes.specs.Sliding.{IsLast}
use Rattle.df_nodes.proofs.WindowDiff.{changes_of_entries}
use Rattle.df_nodes.proofs.window.LiveWindow.changes.Given as goal

abbrev pub invariant-loop-at : goal.invariant-loop-at
invariant-loop-at l =
    record {
      done : map entry_change l.entries.items ++ changes_of_entries l.self.output.rows (rolling_output l.self.rolling l.input.rows) l.self.rolling.w (finite.entries l.input.rows) (drop l.at l.changes)
          ≡ changes_of_entries l.self.output.rows (rolling_output l.self.rolling l.input.rows) l.self.rolling.w (finite.entries l.input.rows) l.changes;
      window : IsLast l.self.rolling l.window (finite.values l.input.rows);
      whole : map entry_change l.changes ≡ finite.entries l.delta;
      short : length l.changes ≡ finite.len l.delta;
      rows : T (list_all has_row l.entries.items);
      grows : IsWithin l.fn.meter l.meter;
      counted : IsWithin l.meter (plus l.fn.meter (windows (l.at * l.self.rolling.w)));
    }
