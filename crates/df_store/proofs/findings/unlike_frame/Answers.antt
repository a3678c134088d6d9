use Rattle.std.proofs.Common.{ℕ, map}
use Rattle.std.specs.Prelude.{Err, IfOk, IfSome, None, Ok, Option, Result, Some}
use Rattle.df_jobs.specs.Jobs.{job_of}
use Rattle.df_jobs.proofs.UnlikeFacts.{unlike-of-picture}
use Rattle.df_store.proofs.findings.unlike_frame.Goals as goal

where-some : {E : Type 0} {A B : ℕ → Type 0} (r : Result (Option ℕ) E) → IfOk r (λ o. IfSome o A) → ((n : ℕ) → A n → B n) → IfOk r (λ o. IfSome o B)
where-some (Err e) a f = tt
where-some (Ok None) a f = tt
where-some (Ok (Some n)) a f = f n a

pub returns-clause-unlike : goal.returns-clause-unlike
returns-clause-unlike g c =
    where-some c.first_unlike.result c.first_unlike.ensures.unlike
    (λ frame u. unlike-of-picture (map job_of c.args.outcomes.items) c.in_ok-picture.picture c.args.catalogue.now.state frame c.in_ok-picture.ensures.picture u)
