-- What a clause reads of a writer of versions.
use Rattle.std.specs.Prelude.{List, fold}
use Rattle.logbook.specs.Pages.{Book}
use Rattle.df_state.specs.declared.state.State.{State}
use Rattle.df_versions.specs.declared.version.Published.{Published}

-- the front that is shown once these are published after f
abbrev pub newest : Book × List State → List Published → Book × List State
newest f ps = fold (λ _ p. p.history) f ps
