use Rattle.std.proofs.Common.{◌≡◌, ◌≤◌}
use Rattle.indexmap.specs.IndexMap.{spare, index_map_len}
use Rattle.df_join.specs.Keyed.{state_of}
use Rattle.df_join.specs.Rules.{Cells}
use Rattle.df_join.proofs.keyed.KeyedTables.put_all.Given as goal

abbrev pub invariant-loop-key : goal.invariant-loop-key
invariant-loop-key l =
    record {
      state : (k : Cells) → state_of l.self.tables l.staged.tables k ≡ state_of l.fn.self.tables l.fn.staged.tables k;
      room : index_map_len l.staged.tables ≤ spare l.self.tables;
    }

abbrev pub decreases-loop-key : goal.decreases-loop-key
decreases-loop-key l = index_map_len l.staged.tables
