use Rattle.std.proofs.Common.{◌++◌, ◌∙◌, length-set, set, arith}
use Rattle.df_jobs.proofs.ShareFacts.{split-at, sums-through}
use Rattle.df_jobs.proofs.splitting.split_desks.Goals as goal

pub loop-at-preserved : goal.loop-at-preserved
loop-at-preserved g c = record {
  count = length-set c.loop-at.desks.items c.loop-at.at c.split_desk.new.desk ∙ c.loop-at.invariant.count;
  most = let a = c.split_desk.ensures.most in let b = c.loop-at.invariant.most in omega (arith, a, b);
  capacity = c.split_desk.ensures.capacity ∙ c.loop-at.invariant.capacity;
  sums = sums-through (c.args.desks.now.items ++ c.args.others.now.items) (c.loop-at.desks.items ++ c.loop-at.others.items)
      (set c.loop-at.desks.items c.loop-at.at c.split_desk.new.desk ++ c.split_desk.new.others.items) c.loop-at.invariant.sums
      (split-at c.loop-at.desks.items c.loop-at.others.items c.split_desk.new.others.items c.loop-at.at c.index_mut.result.now c.split_desk.new.desk (omega arith)
      c.index_mut.ensures.value c.split_desk.ensures.sums);
}
