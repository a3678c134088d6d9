use Rattle.std.proofs.Common.{◌∙◌, arith}
use Rattle.df_group.proofs.Staged.{put_more}
use Rattle.df_group.proofs.staging.put_all.Goals as goal

pub loop-key-preserved : goal.loop-key-preserved
loop-key-preserved c = record {
  state = λ k. put_more c.loop-key.index c.put_group.new.index c.loop-key.staged c.pop.new.self c.in-Some.key c.in-Some.group c.in-Some.ensures.entries c.in-Some.ensures.updates.0 c.put_group.ensures.state k ∙ c.loop-key.invariant.state k;
  room = omega (arith, c.in-Some.ensures.len, c.put_group.ensures.room, c.loop-key.invariant.room);
}
