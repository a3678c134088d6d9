-- The closing of a service.
use Rattle.std.specs.Prelude.{◌≡◌, ◌<◌, ◌⊎◌, ⊤, ℕ, List, None, Some, length, slice_get}
use Rattle.df_plan.specs.CheckedParts.{CheckedParts}
use Rattle.df_value.specs.declared.cell.CellType.{CellType}
use Rattle.df_state.specs.Desks.{AgreeWithBooks, DeskParts}
use Rattle.df_state.specs.States.{IsLegal}
use Rattle.df_state.specs.declared.change.Change.TheVariants.{Register}
use Rattle.df_state.specs.declared.state.State.{State}
use Rattle.df_hall.specs.Closing.{IsMissingAfter, missing_frame, totals_of}
use Rattle.df_hall.specs.declared.totals.Totals.{Totals}
use Rattle.df_versions.specs.Answered.{IsAccepted, IsRefusedAt}
use Rattle.df_versions.specs.Histories.{IsHistoryOver, IsLastState}
use Rattle.df_versions.specs.Openings.{open_fault}
use Rattle.df_versions.specs.declared.fault.OpenFault.{OpenFault}
use Rattle.df_versions.specs.declared.fault.OpenFault.TheVariants as open_fault_of
use Rattle.df_versions.specs.declared.fault.ChangeFault.TheVariants as change_fault
use Rattle.dataframes.specs.Books.{BooksParts}
use Rattle.dataframes.specs.Builders.{BuilderParts}
use Rattle.dataframes.specs.declared.opening.FrameTotals.{FrameTotals}
use Rattle.dataframes.specs.declared.fault.ServiceFault.{ServiceFault}
use Rattle.dataframes.specs.declared.fault.ServiceFault.TheVariants.{Refused}
use Rattle.dataframes.specs.declared.fault.FinishFault.{FinishFault}
use Rattle.dataframes.specs.declared.fault.FinishFault.TheVariants.{Open, View, Unready, Missing}

-- The totals of a legal state that a hall over frames of these schemas may come to, of which the desks that counted the
-- service's rows are the books of every frame.
pub record IsClosed (schemas : List (List (List ℕ × CellType))) (totals : Totals) : Type 0 where
  pub state : State
  pub desks : List DeskParts
  pub last : IsLastState schemas state
  pub legal : IsLegal state
  pub settled : missing_frame desks state ≡ None
  pub agree : AgreeWithBooks desks state
  pub is : totals ≡ totals_of state

-- what the totals say of a frame
abbrev pub AreTotalsOf : Totals → ℕ → FrameTotals → Type 0
AreTotalsOf totals frame said =
    (slice_get totals.accepted frame ≡ Some said.accepted) × (slice_get totals.deleted frame ≡ Some said.deleted) × (slice_get totals.live frame ≡ Some said.live)

-- they say nothing of it
abbrev pub HasNoTotals : Totals → ℕ → Type 0
HasNoTotals totals frame =
    (slice_get totals.accepted frame ≡ None) ⊎ ((slice_get totals.deleted frame ≡ None) ⊎ (slice_get totals.live frame ≡ None))

-- the least frame of which the desks are not the books
abbrev pub IsMissed : List (List (List ℕ × CellType)) → FinishFault → Type 0
IsMissed schemas (Missing frame) = (desks : List DeskParts) × (history : List State) × IsMissingAfter schemas desks history frame
IsMissed schemas fault = ⊥

-- why a view was not added: a state refuses it; there is no version for it, of which nothing is said; or memory was refused
abbrev pub IsViewNotAdded : List (List (List ℕ × CellType)) → List ℕ × CheckedParts → FinishFault → Type 0
IsViewNotAdded schemas view (View fault) = (told : List State) × IsHistoryOver schemas told × IsRefusedAt told (Register view.0 view.1) fault
IsViewNotAdded schemas view Unready = ⊤
IsViewNotAdded schemas view (Open fault) = fault ≡ open_fault_of.Memory
IsViewNotAdded schemas view fault = ⊥

-- the same of one of these views
abbrev pub IsNotAdded : List (List (List ℕ × CellType)) → List (List ℕ × CheckedParts) → FinishFault → Type 0
IsNotAdded schemas views fault =
    (fault ≡ Open open_fault_of.Memory)
    ⊎ ((at : ℕ) × (view : List ℕ × CheckedParts) × (slice_get views at ≡ Some view) × IsViewNotAdded schemas view fault)

-- why there are no totals of a service that was opened: a view was not added, or its books are not the desks
abbrev pub IsServed : List (List (List ℕ × CellType)) → List (List ℕ × CheckedParts) → FinishFault → Type 0
IsServed schemas views fault = IsNotAdded schemas views fault ⊎ IsMissed schemas fault

-- why a hall with so many readers was not opened
abbrev pub IsNotOpened : List (List (List ℕ × CellType)) → ℕ → OpenFault → Type 0
IsNotOpened schemas readers fault = (fault ≡ open_fault_of.Memory) ⊎ (open_fault schemas readers ≡ Some fault)

-- why there are no totals of what was to be opened
abbrev pub IsUnfinished : BuilderParts → ℕ → FinishFault → Type 0
IsUnfinished opened readers fault =
    ((f : OpenFault) × IsNotOpened opened.schemas readers f × (fault ≡ Open f)) ⊎ IsServed opened.schemas opened.views fault

module _ {J : Type 0} where
  -- what is answered of a view to whose change this was answered
  abbrev pub IsFaultOfView : ServiceFault J → FinishFault → Type 0
  IsFaultOfView (Refused (change_fault.Refused fault told)) result = result ≡ View fault
  IsFaultOfView (Refused change_fault.Memory) result = result ≡ Open open_fault_of.Memory
  IsFaultOfView other result = result ≡ Unready

-- a view was added: a history that is longer than what the books were told before ends with it, and they are told of it
pub record IsViewAdded (old : BooksParts) (view : List ℕ × CheckedParts) (new : BooksParts) : Type 0 where
  pub accepted : IsAccepted new.told (Register view.0 view.1)
  pub later : length old.told < length new.told
  pub desks : new.desks ≡ old.desks
