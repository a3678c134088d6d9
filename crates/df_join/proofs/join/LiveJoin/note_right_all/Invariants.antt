use Rattle.std.proofs.Common.{◌≡◌, ◌+◌, ◌*◌, map, drop, length}
use Rattle.std.specs.FinMap as finite
use Rattle.df_column.specs.Changes.{applied}
use Rattle.df_column.specs.Tables.{TaggedRows, entry_change}
use Rattle.df_delta.specs.Differences.{Fits}
use Rattle.df_join.specs.Probes.{Grows, all_probes, is_staged, right_probes, with_keys}
use Rattle.df_join.specs.RowNotes.{NewFit}
use Rattle.df_join.specs.Sides.{IsRowTag, LeadsOver, is_one}
use Rattle.df_join.specs.Spread.{HasKeys}
use Rattle.df_join.proofs.RightSide.{Follows}
use Rattle.df_join.proofs.join.LiveJoin.note_right_all.Given as goal

abbrev pub invariant-loop-entry : goal.invariant-loop-entry
invariant-loop-entry l =
    record {
      short : length l.entry-items ≡ finite.len l.delta;
      touched : with_keys l.self.rule.indices.right (is_staged l.staged) (map entry_change (drop l.entry-index l.entry-items)) ≡ with_keys l.self.rule.indices.right (is_staged l.fn.staged) (finite.entries l.delta);
      exact : l.probes + all_probes l.self.rule.indices.right (right_probes l.self.rule) (is_staged l.staged) (map entry_change (drop l.entry-index l.entry-items)) ≡ l.fn.probes + all_probes l.self.rule.indices.right (right_probes l.self.rule) (is_staged l.fn.staged) (finite.entries l.delta);
      counted : Grows l.fn.probes l.probes (6 * l.entry-index);
      follows : (from t r : TaggedRows) → HasKeys (IsRowTag (is_one l.self.left_scans)) l.delta → Fits r l.delta → NewFit l.self.right.empty.schema (finite.entries l.delta) → LeadsOver l.self l.fn.staged l.fn.notes from t r → Follows l.self l.staged l.notes from t (map entry_change (drop l.entry-index l.entry-items)) (applied r l.delta);
    }
