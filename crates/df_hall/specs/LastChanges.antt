-- What the last step of a history did to a view.
use Rattle.std.specs.Prelude.{◌≡◌, ℕ, List, [], ◌∷◌, ◌++◌, Some}
use Rattle.df_delta.specs.Deltas.{Changes}
use Rattle.df_delta.specs.Differences.{IsDiff}
use Rattle.df_live.specs.Views.{value}
use Rattle.df_state.specs.Reads.{last_changes_of, view_named}
use Rattle.df_state.specs.declared.state.CatalogueParts.{CatalogueParts}
use Rattle.df_state.specs.declared.state.State.{State}
use Rattle.df_state.specs.declared.state.ViewState.{ViewState}
use Rattle.df_catalogue.specs.LiveViews.{tagged_frames}
use Rattle.df_catalogue.specs.declared.keeping.ViewChanges.{ViewChanges}

-- it led the table of the view of a name by this one lean delta
pub record IsLastDiff (history : List State) (name : List ℕ) (d : Changes) : Type 0 where
  pub before : List State
  pub old : State
  pub new : State
  pub ends : history ≡ before ++ old ∷ new ∷ []
  pub view : ViewState
  pub named : view_named name new.views ≡ Some view
  pub diff : IsDiff (value view.plan (tagged_frames old.frames)) (value view.plan (tagged_frames new.frames)) d

-- all that a catalogue keeps was done by the last step of a history
abbrev pub AreOfLastStep : List State → CatalogueParts → Type 0
AreOfLastStep history c = (name : List ℕ) (d : Changes) → last_changes_of c name ≡ Some d → IsLastDiff history name d

-- these are the changes of the view of a name by the last step, and this is its table after it
pub record IsLastChange (history : List State) (name : List ℕ) (v : ViewChanges) : Type 0 where
  pub last : IsLastDiff history name v.changes
  pub table : v.table.rows ≡ value last.view.plan (tagged_frames last.new.frames)
  pub schema : v.table.schema ≡ last.view.plan.schema
