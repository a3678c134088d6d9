use Rattle.std.proofs.Common.{◌≡◌, ◌+◌, ◌*◌, map, drop, length}
use Rattle.std.specs.FinMap as finite
use Rattle.df_column.specs.Changes.{applied}
use Rattle.df_column.specs.Tables.{TaggedRows, entry_change}
use Rattle.df_delta.specs.Differences.{Fits}
use Rattle.df_join.specs.Keyed.{IsIndexOf}
use Rattle.df_join.specs.Probes.{Grows, all_probes, is_staged, nothing_staged, stage_probes, with_keys}
use Rattle.df_join.specs.RowNotes.{NewFit}
use Rattle.df_join.proofs.Staging.{Follows}
use Rattle.df_join.proofs.members.Members.stage_all.Given as goal

abbrev pub invariant-loop-entry : goal.invariant-loop-entry
invariant-loop-entry l =
    record {
      follows : (t : TaggedRows) → IsIndexOf l.indices l.self t → Fits t l.delta → NewFit l.self.empty.schema (finite.entries l.delta) → Follows l.indices l.self l.staged (map entry_change (drop l.entry-index l.entry-items)) (applied t l.delta);
      keys : with_keys l.indices (is_staged l.staged) (map entry_change (drop l.entry-index l.entry-items)) ≡ with_keys l.indices nothing_staged (finite.entries l.delta);
      exact : l.probes + all_probes l.indices (stage_probes l.indices) (is_staged l.staged) (map entry_change (drop l.entry-index l.entry-items)) ≡ l.fn.probes + all_probes l.indices (stage_probes l.indices) nothing_staged (finite.entries l.delta);
      short : length l.entry-items ≡ finite.len l.delta;
      counted : Grows l.fn.probes l.probes (4 * l.entry-index);
    }
