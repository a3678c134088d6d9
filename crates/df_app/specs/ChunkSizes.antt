-- What the size of chunks does not change in a run.
use Rattle.std.specs.Prelude.{◌≡◌, Result, Err, IsOkAnd, MatchResult}
use Rattle.df_app.specs.declared.fault.RunFault.{RunFault}
use Rattle.df_app.specs.declared.outcome.Outcome.TheVariants as outcome
use Rattle.df_app.specs.declared.outcome.Output.{Output}

-- the output of one size of chunks beside that of another: the same fault, or the same outcome, and the same text where
-- no chunk was refused
abbrev pub IsSameUnlessRefused : Result Output RunFault → Result Output RunFault → Type 0
IsSameUnlessRefused one other =
    MatchResult one (λ o. IsOkAnd other (λ p. (o.outcome ≡ p.outcome) × (o.outcome ≡ outcome.Clean → p ≡ o))) (λ f. other ≡ Err f)
