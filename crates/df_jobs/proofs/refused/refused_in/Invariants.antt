use Rattle.std.proofs.Common.{◌≡◌, map, take}
use Rattle.std.specs.Prelude.{filter_map}
use Rattle.df_jobs.specs.Jobs.{job_of}
use Rattle.df_jobs.specs.Refused.{refusal}
use Rattle.df_jobs.proofs.refused.refused_in.Given as goal

abbrev pub invariant-loop-outcome : goal.invariant-loop-outcome
invariant-loop-outcome l = l.refused.items ≡ filter_map refusal (map job_of (take l.outcome-index l.outcomes))
