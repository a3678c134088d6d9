use Rattle.df_print.proofs.Known.{appends_more, front_more, front_within}
use Rattle.df_print.proofs.writing.write_text.Goals as goal

pub loop-at-preserved : goal.loop-at-preserved
loop-at-preserved g c = record {
  within = front_within _ _ _ c.loop-at.invariant.within c.in-Ok.ensures.bound;
  wrote = appends_more _ _ _ _ _ _ c.loop-at.invariant.wrote c.in-Ok.ensures.bytes (front_more _ _ _);
}
