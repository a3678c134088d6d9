use Rattle.std.proofs.Common.{◌≡◌, drop}
use Rattle.df_versions.proofs.publisher.put.Given as goal

abbrev pub invariant-loop : goal.invariant-loop
invariant-loop g l = record {
  can_next : (goal.iterator-loop g).can_next l.iterator';
  is_finite : (goal.iterator-loop g).is_finite l.iterator';
  next_is : l.next ≡ l.initial.next;
  desk_is : l.writer.desk ≡ l.initial.writer.desk;
  pending_is : drop l.writer.behind l.writer.log.items ≡ drop l.initial.writer.behind l.initial.writer.log.items;
}
