-- Which faults the registration of a view and a load of workers are answered with, and which of several comes first.
use Rattle.std.specs.Prelude.{◌≡◌, ◌<◌, ◌⊎◌, ⊤, ℕ, List, Some, slice_get, take}
use Rattle.df_plan.specs.CheckedParts.{CheckedParts}
use Rattle.df_state.specs.Refusals.{refusal_of}
use Rattle.df_state.specs.declared.change.Change.TheVariants.{Register}
use Rattle.df_state.specs.declared.state.State.{State}
use Rattle.df_versions.specs.declared.fault.ChangeFault.{ChangeFault}
use Rattle.df_versions.specs.declared.fault.ChangeFault.TheVariants as change
use Rattle.df_store.specs.declared.fault.LoadCause.{LoadCause}
use Rattle.df_store.specs.declared.fault.LoadCause.TheVariants as load
use Rattle.df_store.specs.Headings.{HasLastViews}
use Rattle.df_jobs.specs.declared.stop.Stop.{Stop}
use Rattle.df_jobs.specs.declared.stop.Stop.TheVariants as stop

-- the cause of a load where the registration of a view is answered so
abbrev pub cause_of_register : {J : Type 0} → ChangeFault J → LoadCause
cause_of_register (change.Refused f told) = load.Refused f
cause_of_register change.Memory = load.Memory
cause_of_register change.Spent = load.Spent
cause_of_register change.Ahead = load.Ahead

-- the registration of a view is given up for this in this state, by a caller who was told of nothing
abbrev pub IsCauseOfView : State → List ℕ × CheckedParts → LoadCause → Type 0
IsCauseOfView s view (load.Refused f) = refusal_of s (Register view.0 view.1) ≡ Some f
IsCauseOfView s view load.Memory = ⊤
IsCauseOfView s view load.Spent = ⊤
IsCauseOfView s view load.Ahead = ⊥
IsCauseOfView s view (load.MissingDesk frame) = ⊥
IsCauseOfView s view (load.Lost job) = ⊥
IsCauseOfView s view (load.Unlike frame) = ⊥
IsCauseOfView s view load.ViewsUnlike = ⊥

-- the registration of one of these views is given up for this in this state, where those before it stand last: it is the first that
-- was not registered
abbrev pub IsCauseOfViews : State → List (List ℕ × CheckedParts) → LoadCause → Type 0
IsCauseOfViews s views cause =
    (at : ℕ) × (view : List ℕ × CheckedParts) × (slice_get views at ≡ Some view) × HasLastViews (take at views) s × IsCauseOfView s view cause

-- what comes before the first job is given up for this in this state: the registration of one of the views, or memory once all of
-- them are registered
abbrev pub IsCauseAtStart : State → List (List ℕ × CheckedParts) → LoadCause → Type 0
IsCauseAtStart s views cause = IsCauseOfViews s views cause ⊎ ((cause ≡ load.Memory) × HasLastViews views s)

-- the cause of a load that a worker's stop is
abbrev pub cause_of_stop : Stop → LoadCause
cause_of_stop stop.Memory = load.Memory
cause_of_stop stop.Spent = load.Spent
cause_of_stop stop.Ahead = load.Ahead

-- the frame that a cause is about, if it is about one, is one of so many
abbrev pub IsOfFrames : ℕ → LoadCause → Type 0
IsOfFrames count (load.Refused f) = ⊤
IsOfFrames count load.Memory = ⊤
IsOfFrames count load.Spent = ⊤
IsOfFrames count load.Ahead = ⊤
IsOfFrames count (load.MissingDesk at) = at < count
IsOfFrames count (load.Lost job) = ⊤
IsOfFrames count (load.Unlike at) = at < count
IsOfFrames count load.ViewsUnlike = ⊤
