use Rattle.std.proofs.Common.{◌≡◌, ◌+◌, ◌≤◌, ℕ, List, length}
use Rattle.std.specs.Prelude.{vec_capacity}
use Rattle.df_value.specs.declared.chunk.Piece.{Piece}
use Rattle.df_jobs.specs.Jobs.{AreOutcomes}
use Rattle.df_jobs.specs.Counted.{AreCounted, all_without_accepted}
use Rattle.df_store.proofs.entering.enter_each.Given as goal

abbrev pub invariant-loop-outcome : goal.invariant-loop-outcome
invariant-loop-outcome g l = record {
  room : length l.done.items + length l.fn.made.items ≤ vec_capacity l.done + length l.yielded;
  desks : all_without_accepted l.desks.items ≡ all_without_accepted l.fn.desks.items;
  counted : AreCounted l.fn.desks.items l.fn.done.items l.desks.items l.done.items;
  sound : (chunks : List (List (ℕ × Piece))) → AreOutcomes chunks l.fn.made.items → AreOutcomes chunks l.fn.done.items → AreOutcomes chunks l.done.items;
}
