use Rattle.std.proofs.Common.{◌∙◌, length-set, arith}
use Rattle.df_store.specs.Batches.{IsBatch}
use Rattle.df_store.proofs.BatchFacts.{first-left, rest-left}
use Rattle.df_store.proofs.entering.enter_batches.Goals as goal

pub enter_batch-requires : goal.enter_batch-requires
enter_batch-requires g c =
    first-left (IsBatch g.B.Beginning.chunks) c.loop-at.batches.items c.loop-at.at c.index_mut.result.now (omega arith) c.index_mut.ensures.value c.loop-at.invariant.left

pub loop-at-preserved : goal.loop-at-preserved
loop-at-preserved g c = record {
  left = rest-left (IsBatch g.B.Beginning.chunks) c.loop-at.batches.items c.loop-at.at c.enter_batch.new.batch c.loop-at.invariant.left;
  count = length-set c.loop-at.batches.items c.loop-at.at c.enter_batch.new.batch ∙ c.loop-at.invariant.count;
  desks = c.enter_batch.ensures.desks ∙ c.loop-at.invariant.desks;
  counted = record { same = λ frame. let a = c.enter_batch.ensures.counted.same frame in let b = c.loop-at.invariant.counted.same frame in omega (arith, a, b) };
  sound = λ h. c.enter_batch.ensures.done (c.loop-at.invariant.sound h);
}
