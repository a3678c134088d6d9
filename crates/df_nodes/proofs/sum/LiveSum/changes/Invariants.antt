use Rattle.std.proofs.Common.{◌≡◌, ◌+◌, ◌++◌, map, drop, length}
use Rattle.std.specs.Prelude.{T}
use Rattle.std.specs.List.{list_all}
use Rattle.std.specs.FinMap as finite
use Rattle.df_column.specs.Tables.{entry_change}
use Rattle.df_delta.specs.Deltas.{has_row}
use Rattle.df_nodes.specs.Sums.{AreSums, first_tag, made_output}
use Rattle.df_nodes.proofs.WindowDiff.{changes_of_entries}
use Rattle.df_nodes.proofs.sum.LiveSum.changes.Given as goal

abbrev pub invariant-loop-at : goal.invariant-loop-at
invariant-loop-at l =
    record {
      done : map entry_change l.entries.items ++ changes_of_entries l.self.output.rows (made_output l.self.places l.self.index l.input.rows l.all) (length (finite.entries l.input.rows) + 1) (finite.entries l.input.rows) (drop l.at l.changes)
          ≡ changes_of_entries l.self.output.rows (made_output l.self.places l.self.index l.input.rows l.all) (length (finite.entries l.input.rows) + 1) (finite.entries l.input.rows) l.changes;
      whole : map entry_change l.changes ≡ finite.entries l.delta;
      rows : T (list_all has_row l.entries.items);
      sums : AreSums l.self.index l.input.rows l.all;
      first : l.all.first ≡ first_tag l.changes;
    }
