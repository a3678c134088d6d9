use Rattle.std.proofs.Common.{◌≡◌, map}
use Rattle.df_value.specs.CellOrder.{cell_cmp}
use Rattle.df_column.specs.Changes.{after_changes}
use Rattle.df_counts.specs.Counts.{count_change}
use Rattle.df_counts.proofs.counts.Counts.raise.Given as goal

abbrev pub invariant-loop-value : goal.invariant-loop-value
invariant-loop-value l =
    record {
      can_next : (goal.iterator-loop-value).can_next l.value-iterator;
      is_finite : (goal.iterator-loop-value).is_finite l.value-iterator;
      leads : after_changes cell_cmp l.raised (map (count_change l.self) l.value-iterator) ≡ after_changes cell_cmp l.self (map (count_change l.self) l.rises.entries);
    }
