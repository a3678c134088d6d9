use Rattle.std.proofs.Common.{◌≡◌, ◌<◌, List, None}
use Rattle.std.specs.Prelude.{◌^◌}
use Rattle.std.specs.Option.{IfSome}
use Rattle.indexmap.specs.IndexMap.{get, index_map_len}
use Rattle.df_value.specs.Rows.{row_eq}
use Rattle.df_value.specs.declared.cell.Cell.{Cell}
use Rattle.df_column.specs.Tables.{AreRising}
use Rattle.df_delta.specs.Work.{IsWithin, plus}
use Rattle.df_group.specs.GroupIndex.{Follows, member_entries, staged_with}
use Rattle.df_group.specs.Work.{finishes}
use Rattle.df_group.proofs.staging.stage_all.Given as goal

abbrev pub invariant-loop-key : goal.invariant-loop-key
invariant-loop-key l =
    record {
      follow : ((k : List Cell) → IfSome (get row_eq l.fn.changes k) (λ c. Follows l.grouping k (get row_eq l.index k) (member_entries l.grouping c))) → (k : List Cell) → IfSome (get row_eq l.changes k) (λ c. Follows l.grouping k (get row_eq l.index k) (member_entries l.grouping c));
      staged : ((k : List Cell) → IfSome (get row_eq l.fn.changes k) (λ c. Follows l.grouping k (get row_eq l.index k) (member_entries l.grouping c))) → (k : List Cell) → staged_with l.grouping k (get row_eq l.index k) (get row_eq l.changes k) (get row_eq l.staged k) ≡ staged_with l.grouping k (get row_eq l.index k) (get row_eq l.fn.changes k) None;
      rising : (k : List Cell) → IfSome (get row_eq l.changes k) (λ c. AreRising c.entries.items);
      grows : IsWithin l.fn.meter l.meter;
      small : index_map_len l.fn.changes < 2 ^ 63;
      counted : IsWithin (plus l.meter (finishes (index_map_len l.changes))) (plus l.fn.meter (finishes (index_map_len l.fn.changes)));
    }

abbrev pub decreases-loop-key : goal.decreases-loop-key
decreases-loop-key l = index_map_len l.changes
