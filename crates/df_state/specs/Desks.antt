-- Desks: who changes a frame, and what was accepted and deleted through them. Shares of sums over all threads are
-- this project's own.
use Rattle.std.specs.Prelude.{◌≡◌, ◌≤◌, ℕ, ◌+◌, ◌-◌, ◌/◌, ◌*◌, ◌^◌, Bool, ◌&&◌, ◌==◌, if◌then◌else◌, nat_lt}
use Rattle.std.specs.Prelude.{List, length, map, fold, sum_by}
use Rattle.std.specs.List.{range_with_len}
use Rattle.df_state.specs.declared.state.State.{State}
use Rattle.df_state.specs.declared.change.Change.{Change}
use Rattle.df_state.specs.declared.change.Change.TheVariants.{Append, Delete, Replace, Register, DropView}
use Rattle.df_state.specs.Changes.{accepted_rows, change_at, deleted_rows}
use Rattle.df_state.specs.Ledgers as ledgers

-- what callers see of a desk: its frame, its shares of the rows accepted and deleted, and its parts of both ledgers
pub record DeskParts : Type 0 where
  pub frame : ℕ
  pub accepted : ℕ
  pub deleted : ℕ
  pub parts : ℕ

-- the first desk of a frame
abbrev pub first_desk : ℕ → DeskParts
first_desk f = record { frame = f; accepted = 0; deleted = 0; parts = ledgers.parts_of_first_desk }

-- the first desks of so many frames, in order
abbrev pub first_desks : ℕ → List DeskParts
first_desks n = map first_desk (range_with_len 0 n)

-- the parts of each ledger that the first desks of so many frames leave to the catalogue
abbrev pub parts_of_no_desk : ℕ → ℕ
parts_of_no_desk n = ledgers.parts_of_ledger - ledgers.parts_of_first_desk * n

-- a desk from which a new one was split: the new one has half of the parts, rounded down, and no rows yet
pub record IsSplit (old kept given : DeskParts) : Type 0 where
  pub given_half : given ≡ record { frame = old.frame; accepted = 0; deleted = 0; parts = old.parts / 2 }
  pub kept_half : kept ≡ record old { parts = old.parts - old.parts / 2 }

-- two desks as one
abbrev pub joined_desk : DeskParts → DeskParts → DeskParts
joined_desk d e = record {
  frame = d.frame;
  accepted = d.accepted + e.accepted;
  deleted = d.deleted + e.deleted;
  parts = d.parts + e.parts;
}

-- a measure of desks that adds up where two desks of one frame are joined, as their rows, their parts, or those of one
-- frame alone
abbrev pub AddsUp : (DeskParts → ℕ) → Type 0
AddsUp h = (d e : DeskParts) → d.frame ≡ e.frame → h (joined_desk d e) ≡ h d + h e

-- desks of which some were split, or joined to others of their frames: whatever adds up is the same, so nothing of a share is
-- lost
pub record HaveSameSums (before after : List DeskParts) : Type 0 where
  pub same : (h : DeskParts → ℕ) → AddsUp h → sum_by h after ≡ sum_by h before

-- whether two desks have one frame, and their amounts together are numbers of 64 bits, which those of one catalogue's
-- desks are
abbrev pub may_join : DeskParts → DeskParts → Bool
may_join d e =
    (d.frame == e.frame) && (nat_lt (d.accepted + e.accepted) (2 ^ 64) && nat_lt (d.deleted + e.deleted) (2 ^ 64))

-- so many more rows were accepted through the desk
abbrev pub having_accepted : ℕ → DeskParts → DeskParts
having_accepted rows d = record d { accepted = d.accepted + rows }

-- so many more were deleted
abbrev pub having_deleted : ℕ → DeskParts → DeskParts
having_deleted rows d = record d { deleted = d.deleted + rows }

-- the desk through which a change was made: it counts the rows that were added and those that were taken out
abbrev pub desk_after : DeskParts → Change → DeskParts
desk_after d c = record d { accepted = d.accepted + accepted_rows c; deleted = d.deleted + deleted_rows c }

-- the desks of all frames, each at the index of its frame, after a change that was not refused
abbrev pub desks_after : List DeskParts → Change → List DeskParts
desks_after desks (Append f c) = change_at f (λ d. desk_after d (Append f c)) desks
desks_after desks (Delete f ns) = change_at f (λ d. desk_after d (Delete f ns)) desks
desks_after desks (Replace f rows) = desks
desks_after desks (Register name p) = desks
desks_after desks (DropView name) = desks

-- the desks after all of the changes in turn, none of which was refused
abbrev pub desks_run : List DeskParts → List Change → List DeskParts
desks_run desks cs = fold desks_after desks cs

-- there is a desk for each frame, at its index
abbrev pub AreInOrder : List DeskParts → State → Type 0
AreInOrder desks s = map (λ d. d.frame) desks ≡ range_with_len 0 (length s.schemas)

-- the books: how many rows were accepted and how many deleted, over all frames
abbrev pub accepted_in : State → ℕ
accepted_in s = sum_by (λ f. length f.accepted) s.frames

abbrev pub deleted_in : State → ℕ
deleted_in s = sum_by (λ f. length f.deleted) s.frames

-- how many rows were accepted through desks, how many deleted, and the parts that they have
abbrev pub accepted_through : List DeskParts → ℕ
accepted_through desks = sum_by (λ d. d.accepted) desks

abbrev pub deleted_through : List DeskParts → ℕ
deleted_through desks = sum_by (λ d. d.deleted) desks

abbrev pub parts_of : List DeskParts → ℕ
parts_of desks = sum_by (λ d. d.parts) desks

-- how many rows were accepted through the desks of a frame
abbrev pub accepted_at : ℕ → List DeskParts → ℕ
accepted_at frame desks = sum_by (λ d. if d.frame == frame then d.accepted else 0) desks

-- how many were deleted
abbrev pub deleted_at : ℕ → List DeskParts → ℕ
deleted_at frame desks = sum_by (λ d. if d.frame == frame then d.deleted else 0) desks

-- desks have every part of the ledgers that the first desks were given
abbrev pub HaveAllParts : List DeskParts → State → Type 0
HaveAllParts desks s = parts_of desks + parts_of_no_desk (length s.schemas) ≡ ledgers.parts_of_ledger

-- desks count no more rows than the books, and exactly these where they have every part
pub record AgreeWithBooks (desks : List DeskParts) (s : State) : Type 0 where
  pub most_accepted : accepted_through desks ≤ accepted_in s
  pub most_deleted : deleted_through desks ≤ deleted_in s
  pub all_accepted : HaveAllParts desks s → accepted_through desks ≡ accepted_in s
  pub all_deleted : HaveAllParts desks s → deleted_through desks ≡ deleted_in s
