use Rattle.df_ranks.proofs.ChangedValues.{AreAmong}
use Rattle.df_ranks.proofs.reach.first_change.Given as goal

abbrev pub invariant-loop-value : goal.invariant-loop-value
invariant-loop-value l =
    record {
      can_next : (goal.iterator-loop-value).can_next l.value-iterator;
      is_finite : (goal.iterator-loop-value).is_finite l.value-iterator;
      among : AreAmong l.kind l.old l.new l.value-iterator;
    }
