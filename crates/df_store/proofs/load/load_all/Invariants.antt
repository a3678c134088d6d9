use Rattle.df_jobs.specs.Jobs.{chunks_of}
use Rattle.df_store.proofs.load.load_all.Given as goal

-- the load begins with the catalogue in which the views are registered
abbrev pub ghosts-run_load : goal.ghosts-run_load
ghosts-run_load g a = record { history = a.catalogue; chunks = chunks_of g.S.Source.made g.S.Source.start_of a.work.now.sources.now }
