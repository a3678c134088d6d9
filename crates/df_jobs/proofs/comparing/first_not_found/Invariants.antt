use Rattle.std.proofs.Common.{◌<◌, ℕ, get_or}
use Rattle.df_jobs.specs.Expected.{HasAll}
use Rattle.df_jobs.proofs.comparing.first_not_found.Given as goal

abbrev pub invariant-loop-frame : goal.invariant-loop-frame
invariant-loop-frame l = (frame : ℕ) → frame < l.frame → HasAll l.picture frame l.all (get_or l.counts frame 0)
