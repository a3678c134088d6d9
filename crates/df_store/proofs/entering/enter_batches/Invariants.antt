use Rattle.std.proofs.Common.{◌≡◌, drop, length}
use Rattle.std.specs.Prelude.{All}
use Rattle.df_jobs.specs.Jobs.{AreOutcomes}
use Rattle.df_jobs.specs.Counted.{AreCounted, all_without_accepted}
use Rattle.df_store.specs.Batches.{IsBatch}
use Rattle.df_store.proofs.entering.enter_batches.Given as goal

abbrev pub invariant-loop-at : goal.invariant-loop-at
invariant-loop-at g l = record {
  left : All (IsBatch g.B.Beginning.chunks) (drop l.at l.batches.items);
  count : length l.batches.items ≡ length l.fn.batches.items;
  desks : all_without_accepted l.desks.items ≡ all_without_accepted l.fn.desks.items;
  counted : AreCounted l.fn.desks.items l.fn.done.items l.desks.items l.done.items;
  sound : AreOutcomes g.B.Beginning.chunks l.fn.done.items → AreOutcomes g.B.Beginning.chunks l.done.items;
}
