use Rattle.df_versions.specs.Histories.{schemas_of}
use Rattle.df_app.proofs.loading.load_output.Given as goal

-- the history is the one that was opened, and every change may be a step of it
abbrev pub ghosts-load_opened : goal.ghosts-load_opened
ghosts-load_opened g a = record { book = a.opened.0; schemas = schemas_of a.opened.1.0; allows = λ c. Unit {0} }
