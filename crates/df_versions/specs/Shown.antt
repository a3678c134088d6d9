-- What a version shows.
use Rattle.std.specs.Prelude.{◌≡◌, ◌+◌, ℕ, List, length, Some}
use Rattle.df_state.specs.Pictures.{PictureParts, picture_of}
use Rattle.df_state.specs.States.{IsLegal}
use Rattle.df_state.specs.declared.state.State.{State}
use Rattle.df_versions.specs.Histories.{IsHistory, last_state}

-- the version of this number and picture shows the last state of a history, which is legal
pub record Shows (history : List State) (v : ℕ × PictureParts) : Type 0 where
  pub lawful : IsHistory history
  pub state : State
  pub ends : last_state history ≡ Some state
  pub legal : IsLegal state
  pub picture : v.1 ≡ picture_of state
  pub number : length history ≡ v.0 + 1
