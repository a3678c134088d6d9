use Rattle.std.proofs.Common.{refl}
use Rattle.df_jobs.proofs.JoinedFacts.{joined-both}
use Rattle.df_jobs.proofs.joining.Joined.joined.Goals as goal

pub returns-clause-joined : goal.returns-clause-joined
returns-clause-joined c = λ x y. joined-both c.args.self c.args.next _ c.requires.frame c.requires.run refl c.in_ok-run.ensures c.in_ok-append.ensures.items x y
