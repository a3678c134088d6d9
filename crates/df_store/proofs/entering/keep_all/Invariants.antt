use Rattle.std.proofs.Common.{◌≡◌, ◌+◌, ◌++◌, ◌≤◌, length}
use Rattle.std.specs.Prelude.{vec_capacity}
use Rattle.df_store.proofs.entering.keep_all.Given as goal

abbrev pub invariant-loop-outcome : goal.invariant-loop-outcome
invariant-loop-outcome l = record {
  room : length l.done.items + length l.fn.outcomes.items ≤ vec_capacity l.done + length l.yielded;
  kept : l.done.items ≡ l.fn.done.items ++ l.yielded;
}
