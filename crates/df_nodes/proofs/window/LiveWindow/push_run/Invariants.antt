use Rattle.std.proofs.Common.{◌≡◌, ◌-◌, ◌++◌, map, drop, take}
use Rattle.std.specs.Prelude.{T}
use Rattle.std.specs.List.{list_all}
use Rattle.std.specs.FinMap as finite
use Rattle.df_column.specs.Tables.{entry_change}
use Rattle.df_delta.specs.Deltas.{has_row}
use Rattle.df_delta.specs.Reached.{changes_at}
use Rattle.df_delta.specs.Work.{IsWithin, plus}
use Rattle.df_nodes.specs.Rolling.{rolling_output, windows}
use Rattle.df_nodes.specs.Sliding.{IsLast}
use Rattle.df_nodes.proofs.window.LiveWindow.push_run.Given as goal

abbrev pub invariant-loop-at : goal.invariant-loop-at
invariant-loop-at l =
    record {
      added : map entry_change l.entries.items ≡ map entry_change l.fn.entries.items
          ++ changes_at l.self.output.rows (rolling_output l.self.rolling l.input.rows) (map (λ r. r.0) (drop l.from (take l.at (finite.entries l.input.rows))));
      window : IsLast l.self.rolling l.window (finite.values l.input.rows);
      rows : T (list_all has_row l.fn.entries.items) → T (list_all has_row l.entries.items);
      grows : IsWithin l.fn.meter l.meter;
      counted : IsWithin l.meter (plus l.fn.meter (windows (l.at - l.from)));
    }
