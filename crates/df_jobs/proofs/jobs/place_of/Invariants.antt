use Rattle.std.proofs.Common.{◌≡◌, drop}
use Rattle.std.specs.Prelude.{slice_get}
use Rattle.df_jobs.specs.Jobs.{chunks_of, jobs_from, jobs_of}
use Rattle.df_jobs.proofs.jobs.place_of.Given as goal

abbrev pub invariant-loop-frame : goal.invariant-loop-frame
invariant-loop-frame g l =
    slice_get (jobs_of (chunks_of g.S.Source.made g.S.Source.start_of l.sources)) l.fn.job
    ≡ slice_get (jobs_from l.frame (chunks_of g.S.Source.made g.S.Source.start_of (drop l.frame l.sources))) l.left
