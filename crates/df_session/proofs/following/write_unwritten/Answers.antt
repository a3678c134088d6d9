use Rattle.std.proofs.Common.{codes, inr, refl}
use Rattle.std.proofs.lemmas.Result.{on_ok_weaker}
use Rattle.df_session.proofs.following.write_unwritten.Goals as goal

pub returns-in-Err : goal.returns-in-Err
returns-in-Err g c = on_ok_weaker c.write_reason-in-Err.result (λ e. (codes "memory", inr refl, e)) c.write_reason-in-Err.ensures
