use Rattle.std.proofs.Common.{get_or, arith, inl, inr, subst, sym}
use Rattle.df_jobs.specs.Expected.{HasAll}
use Rattle.df_jobs.proofs.ExpectedFacts.{place-cases}
use Rattle.df_jobs.proofs.comparing.first_not_found.Goals as goal

pub loop-frame-preserved : goal.loop-frame-preserved
loop-frame-preserved c = λ frame h.
    elim (place-cases frame c.loop-frame.frame (omega (arith, h))) [
      | inl low ↦ c.loop-frame.invariant frame low
      | inr e ↦ subst (λ f. HasAll c.args.picture.now f c.args.all.now (get_or c.args.counts.now f 0)) (sym e) (c.has_all.ensures.0 c.if-not-has_all.false)
    ]
