use Rattle.std.proofs.Common.{◌≡◌, ◌+◌, ◌*◌, Bool, map, drop, length}
use Rattle.std.specs.FinMap as finite
use Rattle.df_column.specs.Changes.{applied}
use Rattle.df_column.specs.Tables.{TaggedRows, entry_change}
use Rattle.df_delta.specs.Differences.{Fits}
use Rattle.df_join.specs.Probes.{Grows, all_probes, is_staged, note_probes, nothing_staged}
use Rattle.df_join.specs.RowNotes.{AreSides, Leads, joined_by_key}
use Rattle.df_join.specs.Rules.{Cells}
use Rattle.df_join.specs.Sides.{is_one}
use Rattle.df_join.specs.Spread.{HasKeys, IsLeftTag}
use Rattle.df_join.proofs.LeftSide.{Follows}
use Rattle.df_join.proofs.join.LiveJoin.note_left_all.Given as goal

abbrev pub invariant-loop-entry : goal.invariant-loop-entry
invariant-loop-entry l =
    let one = is_one l.self.left_scans in
    record {
      short : length l.entry-items ≡ finite.len l.delta;
      exact : (s : Cells → Bool) × (l.probes + all_probes l.self.rule.indices.left (λ _. note_probes l.self.rule (is_staged l.staged)) s (map entry_change (drop l.entry-index l.entry-items)) ≡ l.fn.probes + all_probes l.self.rule.indices.left (λ _. note_probes l.self.rule (is_staged l.staged)) nothing_staged (finite.entries l.delta));
      counted : Grows l.fn.probes l.probes (4 * l.entry-index);
      follows : (from t r : TaggedRows) → AreSides one l.self.rule l.self.right l.staged t r → HasKeys (IsLeftTag one) l.delta → Fits t l.delta → Leads l.fn.notes from (joined_by_key one l.self.rule t r) → Follows one l.self.rule l.self.right l.staged l.notes from r (map entry_change (drop l.entry-index l.entry-items)) (applied t l.delta);
    }
