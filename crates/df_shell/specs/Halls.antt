-- What a session over a hall sees: the history that it was told of, the newest that it saw, and its desks. Each change and
-- each answer goes on from these.
use Rattle.std.specs.Prelude.{◌≡◌, ◌<◌, ◌⊎◌, ⊤, ℕ, Bool, List, None, Result, Err, length, slice_get}
use Rattle.std.specs.Global.{Vec}
use mathlib.Core.List.{IsPrefix}
use Rattle.df_value.specs.declared.cell.CellType.{CellType}
use Rattle.df_state.specs.Desks.{AgreeWithBooks, DeskParts, desks_after}
use Rattle.df_state.specs.Pictures.{PictureParts}
use Rattle.df_state.specs.declared.change.Change.{Change}
use Rattle.df_state.specs.declared.change.Change.TheVariants.{Append, Delete, DropView, Register, Replace}
use Rattle.df_state.specs.declared.fault.CatalogueFault.TheVariants as fault
use Rattle.df_state.specs.declared.state.State.{State}
use Rattle.df_session.specs.Told.{IsTold}
use Rattle.df_shell.specs.ToldChanges.{FindsIn, NamesIn}
use Rattle.df_shell.specs.Versions.{refusal_with_hall, text_of_version}
use Rattle.df_shell.specs.ViewTables.{GivesTableIn}
use Rattle.df_session.specs.declared.command.Question.{Question}
use Rattle.df_session.specs.declared.definitions.Definitions.{Definitions}
use Rattle.df_session.specs.declared.refusal.Refusal.{Refusal}
use Rattle.df_session.specs.declared.refusal.Refusal.TheVariants as refusal
use Rattle.df_session.specs.declared.fault.ShellFault.{ShellFault}
use Rattle.df_session.specs.declared.fault.ShellFault.TheVariants as shell
use Rattle.df_session.specs.declared.refusal.VersionFault.TheVariants as version
use Rattle.df_session.specs.declared.view_table.ViewTable.{ViewTable}
use Rattle.df_hall.specs.Closing.{IsMissingAfter, missing_frame}
use Rattle.df_versions.specs.Answered.{IsAccepted, IsRefusedAt}
use Rattle.df_versions.specs.Histories.{IsLastState}
use Rattle.df_versions.specs.Shown.{Shows}

pub record HallParts : Type 0 where
  pub told : List State
  pub seen : List State
  pub desks : List DeskParts

-- a later time, at which the history that was told of goes on
pub record Follows (old new : HallParts) : Type 0 where
  pub told : IsPrefix old.told new.told
  pub seen : new.seen ≡ old.seen

-- The change was made: what is told now ends with it, and goes on from what was told before. The desks count it.
pub record IsMadeInHall (old new : HallParts) (c : Change) : Type 0 where
  pub follows : Follows old new
  pub longer : length old.told < length new.told
  pub accepted : IsAccepted new.told c
  pub desks : new.desks ≡ desks_after old.desks c

-- No change was made.
pub record IsKeptInHall (old new : HallParts) : Type 0 where
  pub follows : Follows old new
  pub desks : new.desks ≡ old.desks

-- there is no desk for the change
abbrev pub HasNoDesk : List DeskParts → Change → Type 0
HasNoDesk desks (Append at chunk) = slice_get desks at ≡ None
HasNoDesk desks (Delete at numbers) = slice_get desks at ≡ None
HasNoDesk desks (Replace at rows) = slice_get desks at ≡ None
HasNoDesk desks (Register name plan) = ⊥
HasNoDesk desks (DropView name) = ⊥

-- The refusal of a change: that of the last state of what is told now; `C11` where there is no desk; or that the hall has no
-- version for it, or no memory.
abbrev pub IsRefusedInHall : HallParts → HallParts → Change → Refusal → Type 0
IsRefusedInHall old new c (refusal.Store f) = IsRefusedAt new.told c f ⊎ ((f ≡ fault.NoFrame) × HasNoDesk old.desks c)
IsRefusedInHall old new c (refusal.Version f) = ⊤
IsRefusedInHall old new c refusal.Memory = ⊤
IsRefusedInHall old new c r = ⊥

-- The newest version was taken: its history begins with all that was told and seen before. What was told, and the desks, stay.
pub record IsTaken (old new : HallParts) (v : ℕ × PictureParts) : Type 0 where
  pub shows : Shows new.seen v
  pub told : IsPrefix old.told new.seen
  pub seen : IsPrefix old.seen new.seen
  pub same_told : new.told ≡ old.told
  pub desks : new.desks ≡ old.desks

-- The question was answered from the newest version; or there is none, and nothing changed.
abbrev pub IsAnswerOfHall : HallParts → HallParts → Definitions → Question → Result (Vec ℕ) Refusal → Type 0
IsAnswerOfHall old new d q result =
    ((v : ℕ × PictureParts) × IsTaken old new v × IsTold (text_of_version d new.desks v q) (refusal_with_hall q) result)
    ⊎ ((result ≡ Err (refusal.Version version.Missing)) × (new ≡ old))

-- Whether a view of the name is registered was answered from the newest version; or there is none, and nothing changed.
abbrev pub IsFoundInHall : HallParts → HallParts → List ℕ → Result Bool Refusal → Type 0
IsFoundInHall old new name result =
    ((v : ℕ × PictureParts) × IsTaken old new v × FindsIn v.1 name result)
    ⊎ ((result ≡ Err (refusal.Version version.Missing)) × (new ≡ old))

-- The names of the views were answered from the newest version; or there is none, and nothing changed.
abbrev pub AreNamesInHall : HallParts → HallParts → Result (List (List ℕ)) Refusal → Type 0
AreNamesInHall old new result =
    ((v : ℕ × PictureParts) × IsTaken old new v × NamesIn v.1 result)
    ⊎ ((result ≡ Err (refusal.Version version.Missing)) × (new ≡ old))

-- The table of the view of the name was given from the newest version; or there is none, and nothing changed.
abbrev pub IsTableInHall : HallParts → HallParts → Definitions → List ℕ → Result ViewTable Refusal → Type 0
IsTableInHall old new d name result =
    ((v : ℕ × PictureParts) × IsTaken old new v × GivesTableIn d v.1 name result)
    ⊎ ((result ≡ Err (refusal.Version version.Missing)) × (new ≡ old))

-- Desks with which a hall over frames of these schemas was closed: their shares are the books of every frame of a state that it may
-- come to, which the desks of all frames together agree with.
abbrev pub Closes : List (List (List ℕ × CellType)) → List DeskParts → Type 0
Closes schemas desks = (s : State) × IsLastState schemas s × (missing_frame desks s ≡ None) × AgreeWithBooks desks s

-- the fault where it was not: the least frame of which they are not
abbrev pub IsLeftOpen : List (List (List ℕ × CellType)) → List DeskParts → ShellFault → Type 0
IsLeftOpen schemas desks (shell.Missing frame) = (history : List State) × IsMissingAfter schemas desks history frame
IsLeftOpen schemas desks f = ⊥
