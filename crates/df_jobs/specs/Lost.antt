-- Jobs without exactly one outcome.
use Rattle.std.specs.Prelude.{◌≡◌, ◌≢◌, ◌<◌, ◌==◌, ℕ, List, sum_by, if◌then◌else◌}
use Rattle.df_jobs.specs.declared.jobs.Outcome.{Outcome}

-- how many outcomes a job has
abbrev pub outcomes_of : ℕ → List Outcome → ℕ
outcomes_of job outcomes = sum_by (λ o. if o.job == job then 1 else 0) outcomes

-- of so many jobs this is the least that has not exactly one of these outcomes
pub record IsLost (jobs : ℕ) (outcomes : List Outcome) (job : ℕ) : Type 0 where
  pub within : job < jobs
  pub not_one : outcomes_of job outcomes ≢ 1
  pub before : (k : ℕ) → k < job → outcomes_of k outcomes ≡ 1

-- each of so many jobs has exactly one of these outcomes
abbrev pub HaveOneEach : ℕ → List Outcome → Type 0
HaveOneEach jobs outcomes = (k : ℕ) → k < jobs → outcomes_of k outcomes ≡ 1
