use Rattle.df_versions.specs.Histories.{schemas_of}
use Rattle.df_shell.proofs.hall_shell.open.Given as goal

-- the history is the one that was opened, and every change may be a step of it
abbrev pub ghosts-serve : goal.ghosts-serve
ghosts-serve g a = record { book = a.opened.0; schemas = schemas_of a.opened.1.0; allows = λ c. Unit {0} }
