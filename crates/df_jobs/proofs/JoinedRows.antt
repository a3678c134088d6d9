-- What a job gives to its own frame.
use Rattle.std.proofs.Common.{◌≡◌, ℕ, ◌∙◌, [], refl, ap}
use Rattle.std.specs.Prelude.{◌==◌, if◌then◌else◌}
use Rattle.std.proofs.lemmas.Bool.{eq-eqb}
use Rattle.df_jobs.specs.declared.jobs.Outcome.{Outcome}
use Rattle.df_jobs.specs.Jobs.{job_of}
use Rattle.df_jobs.specs.Loaded.{job_rows, made_rows}

-- what a job gives to its own frame is all that it makes
pub rows-of-own : (frame : ℕ) (o : Outcome) → o.frame ≡ frame → job_rows frame (job_of o) ≡ made_rows o.made
rows-of-own frame o e = ap (λ b. if b then made_rows o.made else []) (ap (λ n. n == frame) e ∙ eq-eqb frame frame refl)
