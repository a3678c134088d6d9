use Rattle.std.proofs.Common.{◌≡◌, ◌≤◌, List}
use Rattle.indexmap.specs.IndexMap.{spare, index_map_len}
use Rattle.df_value.specs.declared.cell.Cell.{Cell}
use Rattle.df_group.specs.GroupIndex.{state_of}
use Rattle.df_group.proofs.staging.put_all.Given as goal

abbrev pub invariant-loop-key : goal.invariant-loop-key
invariant-loop-key l =
    record {
      state : (k : List Cell) → state_of l.index l.staged k ≡ state_of l.fn.index l.fn.staged k;
      room : index_map_len l.staged ≤ spare l.index;
    }

abbrev pub decreases-loop-key : goal.decreases-loop-key
decreases-loop-key l = index_map_len l.staged
