use Rattle.df_versions.specs.Histories.{schemas_of}
use Rattle.df_load_tests.proofs.hall_test.open.Given as goal

-- the history is the one that was opened, and every change may be a step of it
abbrev pub ghosts-run_named : goal.ghosts-run_named
ghosts-run_named g a = record { book = a.opened.0; schemas = schemas_of a.opened.1.0; allows = λ c. Unit {0} }
