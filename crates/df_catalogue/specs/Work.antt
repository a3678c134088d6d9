-- The work of a change: what the nodes of all views may count for it, and what they counted. The counters, and what a
-- change costs in each node, are this project's own.
use Rattle.std.specs.Prelude.{◌≡◌, List, [], ◌∷◌, map, fold, Option, Some, None, Result, OnOk, OnErr, IfOk}
use Rattle.df_expr.specs.declared.meter.Meter.{Meter}
use Rattle.df_column.specs.Tables.{TaggedRows}
use Rattle.df_delta.specs.Work.{IsWithin, no_work, plus}
use Rattle.df_plan.specs.CheckedParts.{CheckedParts}
use Rattle.df_live.specs.Views.{work}
use Rattle.df_state.specs.declared.change.Change.{Change}
use Rattle.df_state.specs.declared.change.Change.TheVariants.{Append, Delete, Replace, Register, DropView}
use Rattle.df_state.specs.declared.fault.CatalogueFault.{CatalogueFault}
use Rattle.df_state.specs.declared.state.CatalogueParts.{CatalogueParts}
use Rattle.df_state.specs.declared.state.State.{State}
use Rattle.df_state.specs.Changes.{after}
use Rattle.df_catalogue.specs.LiveViews.{tagged_frames}
use Rattle.df_state.specs.Runs.{Answered, accepted_changes}

-- what the nodes of these plans may count where the frames become others
abbrev pub work_of_all : List CheckedParts → List TaggedRows → List TaggedRows → Meter
work_of_all [] frames new_frames = no_work
work_of_all (p ∷ ps) frames new_frames = plus (work p frames new_frames) (work_of_all ps frames new_frames)

-- what the views of a state may count where its frames become those of another state
abbrev pub allowance : State → State → Meter
allowance s t = work_of_all (map (λ v. v.plan) s.views) (tagged_frames s.frames) (tagged_frames t.frames)

-- what may be counted once a change was made: a change of rows counts anew, and one of the views nothing, so that what
-- may have been counted before stays
abbrev pub allowed_after : State → Change → Option Meter → Option Meter
allowed_after s (Append f c) before = Some (allowance s (after s (Append f c)))
allowed_after s (Delete f ns) before = Some (allowance s (after s (Delete f ns)))
allowed_after s (Replace f rows) before = Some (allowance s (after s (Replace f rows)))
allowed_after s (Register name p) before = before
allowed_after s (DropView name) before = before

-- the work is within what is allowed, or as before where nothing was counted
abbrev pub IsCounted : Option Meter → Meter → Meter → Type 0
IsCounted None old new = new ≡ old
IsCounted (Some most) old new = IsWithin new most

-- what a call that asks for a change makes of the work
pub record IsWorkOf {T : Type 0} (old : CatalogueParts) (change : Change) (result : Result T CatalogueFault) (new : CatalogueParts) : Type 0 where
  pub counted : OnOk result (IsCounted (allowed_after old.state change None) old.work new.work)
  pub same : OnErr result (new.work ≡ old.work)

-- the state after one more change, and what may have been counted by then
abbrev pub counting_step : State × Option Meter → Change → State × Option Meter
counting_step p c = (after p.0 c, allowed_after p.0 c p.1)

-- what may be counted once all of the changes were made in turn
abbrev pub allowed_after_all : State → List Change → Option Meter
allowed_after_all s cs = (fold counting_step (s, None) cs).1

-- what a call that asks for changes in turn makes of the work; at Err nothing was done
pub record IsWorkOfReplay (old : CatalogueParts) (changes : List Change) (result : Answered) (new : CatalogueParts) : Type 0 where
  pub counted : IfOk result (λ answers. IsCounted (allowed_after_all old.state (accepted_changes changes answers)) old.work new.work)
  pub same : OnErr result (new.work ≡ old.work)
