use Rattle.std.proofs.Common.{◌≡◌, ◌≤◌, ◌*◌, ◌++◌, List, map, drop, length}
use Rattle.std.specs.FinMap as finite
use Rattle.indexmap.specs.IndexMap.{get, index_map_len}
use Rattle.df_value.specs.Rows.{row_eq}
use Rattle.df_value.specs.declared.cell.Cell.{Cell}
use Rattle.df_ops.specs.Groups.{key_of}
use Rattle.df_column.specs.Tables.{entry_change}
use Rattle.df_delta.specs.Keyed.{kept_changes}
use Rattle.df_delta.proofs.KeyedChanges.{made}
use Rattle.df_delta.proofs.keyed.keyed_changes.Given as goal

abbrev pub invariant-loop-entry : goal.invariant-loop-entry
invariant-loop-entry l =
    let made_of = λ (k : List Cell). made (key_of l.indices) k in
    record {
      changes : (k : List Cell) → kept_changes (get row_eq l.by_key k) ++ made_of k (map entry_change (drop l.entry-index l.entry-items)) ≡ made_of k (map entry_change l.entry-items);
      whole : map entry_change l.entry-items ≡ finite.entries l.delta;
      short : length l.entry-items ≡ finite.len l.delta;
      few : index_map_len l.by_key ≤ 2 * l.entry-index;
    }
