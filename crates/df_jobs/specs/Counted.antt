-- How many rows outcomes bring into frames, and the desks through which these are accepted.
use Rattle.std.specs.Prelude.{◌≡◌, ◌+◌, ◌==◌, ℕ, List, if◌then◌else◌, IfOk, length, map, Result, sum_by}
use Rattle.df_value.specs.declared.chunk.Piece.{Piece}
use Rattle.df_value.specs.declared.chunk.Piece.TheVariants.{Bad, Good}
use Rattle.df_state.specs.Desks.{DeskParts, accepted_at, deleted_at}
use Rattle.df_jobs.specs.declared.jobs.Outcome.{Outcome}
use Rattle.df_jobs.specs.Jobs.{AreOutcomes}

-- a desk but for how many rows were accepted through it: where a chunk is committed, this stays
abbrev pub without_accepted : DeskParts → DeskParts
without_accepted d = record d { accepted = 0 }

abbrev pub all_without_accepted : List DeskParts → List DeskParts
all_without_accepted desks = map without_accepted desks

-- how many rows a chunk has, if it is good
abbrev pub rows_of : Piece → ℕ
rows_of (Good c) = length c.rows
rows_of (Bad b) = 0

-- how many rows these outcomes brought into a frame
abbrev pub entered_at : ℕ → List Outcome → ℕ
entered_at frame os = sum_by (λ o. if o.frame == frame then rows_of o.made else 0) os

-- so many rows more of this frame were accepted through the desks, and of each other frame as many as before
pub record HaveAccepted (frame rows : ℕ) (desks desks' : List DeskParts) : Type 0 where
  pub same : (at : ℕ) → accepted_at at desks' ≡ accepted_at at desks + (if frame == at then rows else 0)

-- desks and outcomes, before and after: of each frame as many rows more were accepted through the desks as the outcomes
-- that came brought into it
pub record AreCounted (desks : List DeskParts) (done : List Outcome) (desks' : List DeskParts) (done' : List Outcome) : Type 0 where
  pub same : (frame : ℕ) → accepted_at frame desks' + entered_at frame done ≡ accepted_at frame desks + entered_at frame done'

-- what workers have done in all: outcomes of jobs, whose rows were accepted through their desks, through which nothing was
-- deleted. They are handed over, or a stop is
pub record HaveDone {V E : Type 0} (items : V → List Outcome) (chunks : List (List (ℕ × Piece))) (desks desks' : List DeskParts) (handed : Result V E) :
    Type 0 where
  pub outcomes : List Outcome
  pub made : AreOutcomes chunks outcomes
  pub accepted : (frame : ℕ) → accepted_at frame desks' ≡ accepted_at frame desks + entered_at frame outcomes
  pub deleted : (frame : ℕ) → deleted_at frame desks' ≡ deleted_at frame desks
  pub all : IfOk handed (λ v. items v ≡ outcomes)
