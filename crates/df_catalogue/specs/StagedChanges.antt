-- A change in two steps: a call stages it, which may be refused and leaves the state as it is; a second one commits it,
-- which needs no memory and is not refused.
use Rattle.std.specs.Prelude.{◌≡◌, ◌+◌, Bool, ◌&&◌, Option, Some, None, is_none, is_some, option_and_then, length, Result, OnOk, OnErr, IfErr, IsSomeAnd}
use Rattle.df_state.specs.declared.change.Change.{Change}
use Rattle.df_state.specs.declared.change.Change.TheVariants.{Append, Delete, Replace, Register, DropView}
use Rattle.df_state.specs.declared.fault.CatalogueFault.{CatalogueFault}
use Rattle.df_state.specs.declared.state.CatalogueParts.{CatalogueParts}
use Rattle.df_state.specs.declared.state.RowCounts.{RowCounts}
use Rattle.df_state.specs.declared.state.StagedParts.{StagedParts}
use Rattle.df_state.specs.Answers.{RefusedBy}
use Rattle.df_state.specs.Changes as changes
use Rattle.df_state.specs.Desks.{DeskParts}
use Rattle.df_state.specs.Refusals.{refusal_of}
use Rattle.df_state.specs.States.{IsLegal}
use Rattle.df_catalogue.specs.KeptChanges.{AreKeptAt, HasSameChanges}
use Rattle.df_catalogue.specs.Work.{IsCounted, allowed_after}

-- what the desk counts at a change of rows
abbrev pub counts_of : Change → Option RowCounts
counts_of (Append f c) = Some (record { frame = f; accepted = length c.rows; deleted = 0 })
counts_of (Delete f ns) = Some (record { frame = f; accepted = 0; deleted = length ns })
counts_of (Replace f rows) = Some (record { frame = f; accepted = 0; deleted = 0 })
counts_of (Register name p) = None
counts_of (DropView name) = None

-- the change is what is staged: its commit makes the state after it, its work, and what is kept of it
pub record IsStagedFor (old : CatalogueParts) (change : Change) (s : StagedParts) : Type 0 where
  pub state : s.state ≡ changes.after old.state change
  pub legal : IsLegal s.state
  pub work : IsCounted (allowed_after old.state change None) old.work s.work
  pub rows : s.rows ≡ counts_of change
  pub kept : AreKeptAt old.keeps change old.state s.state s.changes

-- what a call that stages a change makes of a catalogue: at Ok the change is sound, nothing refuses it, and it is staged;
-- at Err nothing is staged. The state, the work and what is kept are as they were
pub record IsStagedChange {T : Type 0} (old : CatalogueParts) (change : Change) (result : Result T CatalogueFault) (new : CatalogueParts) :
    Type 0 where
  pub sound : OnOk result (changes.IsSound change)
  pub accepted : OnOk result (refusal_of old.state change ≡ None)
  pub staged : OnOk result (IsSomeAnd new.staged (IsStagedFor old change))
  pub refused : IfErr result (RefusedBy old.state change)
  pub nothing : OnErr result (new.staged ≡ None)
  pub state : new.state ≡ old.state
  pub work : new.work ≡ old.work
  pub kept : HasSameChanges old new
  pub legal : IsLegal new.state

-- what a commit makes of a catalogue
pub record IsCommit (old new : CatalogueParts) : Type 0 where
  pub state : IsSomeAnd old.staged (λ s. new.state ≡ s.state)
  pub work : IsSomeAnd old.staged (λ s. new.work ≡ s.work)
  pub changes : IsSomeAnd old.staged (λ s. new.changes ≡ s.changes)
  pub keeps : new.keeps ≡ old.keeps
  pub nothing : new.staged ≡ None
  pub legal : IsLegal new.state

-- what a desk is to count at the commit, where rows are staged
abbrev pub counts_staged : CatalogueParts → Option RowCounts
counts_staged c = option_and_then (λ s. s.rows) c.staged

-- whether it is rows that are staged, or a view that comes or goes
abbrev pub are_rows_staged : CatalogueParts → Bool
are_rows_staged c = is_some (counts_staged c)

abbrev pub are_views_staged : CatalogueParts → Bool
are_views_staged c = is_some c.staged && is_none (counts_staged c)

-- the desk that counted them
abbrev pub counted_desk : DeskParts → RowCounts → DeskParts
counted_desk d r = record d { accepted = d.accepted + r.accepted; deleted = d.deleted + r.deleted }
