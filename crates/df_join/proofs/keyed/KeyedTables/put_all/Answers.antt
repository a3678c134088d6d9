use Rattle.std.proofs.Common.{◌∙◌, arith}
use Rattle.df_join.proofs.Groups.{put_more}
use Rattle.df_join.proofs.keyed.KeyedTables.put_all.Goals as goal

pub loop-key-preserved : goal.loop-key-preserved
loop-key-preserved c = record {
  state = λ k. put_more c.loop-key.self.tables c.put_table.new.self.tables c.loop-key.staged.tables c.pop.new.self c.in-Some.key c.in-Some.table c.in-Some.ensures.entries c.in-Some.ensures.updates.0 c.put_table.ensures.state k ∙ c.loop-key.invariant.state k;
  room = omega (arith, c.in-Some.ensures.len, c.put_table.ensures.room, c.loop-key.invariant.room);
}
