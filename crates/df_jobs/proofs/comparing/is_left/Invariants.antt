use Rattle.std.proofs.Common.{◌≢◌, ◌<◌, ℕ, get_or}
use Rattle.std.specs.Prelude.{IfSome}
use Rattle.df_jobs.specs.declared.expected.Expected.{Expected}
use Rattle.df_jobs.proofs.comparing.is_left.Given as goal

abbrev pub invariant-loop-expected : goal.invariant-loop-expected
invariant-loop-expected l = (k : ℕ) (d : Expected) → k < l.expected-index → IfSome (get_or l.all k d).outcome (λ o. o.frame ≢ l.frame)
