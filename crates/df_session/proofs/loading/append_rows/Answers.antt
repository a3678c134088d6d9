use Rattle.std.proofs.Common.{inr, refl}
use Rattle.std.proofs.lemmas.Result.{on_ok_weaker}
use Rattle.df_session.specs.Loading.{left_out_line}
use Rattle.df_session.proofs.LoadFacts.{only-told}
use Rattle.df_session.proofs.loading.append_rows.Goals as goal

pub returns-in-Err-clause-tried : goal.returns-in-Err-clause-tried
returns-in-Err-clause-tried g c =
    let line = left_out_line c.args.frame.now c.args.before c.in-Err.refusal in
    on_ok_weaker c.leave_out-told.result
    (λ told. (
      0,
      line,
      inr (c.in-Err.refusal, c.in-Err.ensures.refused, c.in-Err.ensures.kept, refl, refl),
      only-told c.args.loaded.now c.enter_rows.new.loaded c.leave_out-told.new.loaded line c.in-Err.ensures.same told,
    ))
    c.leave_out-told.ensures.told
