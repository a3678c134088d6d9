-- Where the rows of outcomes are to stand in their frames, and that they were found there.
use Rattle.std.specs.Prelude.{◌≡◌, ◌≢◌, ◌⊎◌, ◌^◌, ◌-◌, ◌<◌, ℕ, All, IfSome, List, length, map, min, Some, flat_map, get_or, slice_index_or, take}
use Rattle.df_value.specs.declared.cell.Cell.{Cell}
use Rattle.df_state.specs.Pictures.{PictureParts, ReachesIn, frame_len_in}
use Rattle.df_jobs.specs.declared.expected.Expected.{Expected}
use Rattle.df_jobs.specs.declared.jobs.Outcome.{Outcome}
use Rattle.df_jobs.specs.Jobs.{job_of}
use Rattle.df_jobs.specs.Loaded.{HasRows, job_rows}

-- the rows that these outcomes give to a frame, one after another
abbrev pub rows_at : ℕ → List Outcome → List (ℕ × List Cell)
rows_at frame os = flat_map (λ o. job_rows frame (job_of o)) os

-- an outcome is expected behind the rows of those before it
pub record IsExpected (before : List Outcome) (o : Outcome) (e : Expected) : Type 0 where
  pub outcome : e.outcome ≡ Some o
  pub place : e.place ≡ length (rows_at o.frame before)

-- the greatest usize
abbrev pub most_of_usize : ℕ
most_of_usize = 2 ^ 64 - 1

-- the count is how many rows the outcomes give to a frame, or the greatest usize if that is less; below that one, each of the
-- outcomes is expected behind those before it
pub record IsCounted (frame : ℕ) (os : List Outcome) (es : List Expected) (count : ℕ) : Type 0 where
  pub rows : count ≡ min (length (rows_at frame os)) most_of_usize
  pub each : count < most_of_usize → (at : ℕ) (d : Outcome) (e : Expected) → at < length os → (slice_index_or os at d).frame ≡ frame →
      IsExpected (take at os) (slice_index_or os at d) (slice_index_or es at e)

-- the same of each of so many frames
pub record AreExpected (frames : ℕ) (os : List Outcome) (es : List Expected) (counts : List ℕ) : Type 0 where
  pub len : length es ≡ length os
  pub outcomes : map (λ e. e.outcome) es ≡ map (λ o. Some o) os
  pub many : length counts ≡ frames
  pub counted : (frame : ℕ) → frame < frames → IsCounted frame os es (get_or counts frame 0)

-- rows stand in their frame from a place on
pub record StandsAt (p : PictureParts) (frame place : ℕ) (rows : List (ℕ × List Cell)) : Type 0 where
  pub reach : ReachesIn p frame place (length rows)
  pub has : HasRows p frame place rows

-- where an outcome is left no more, its rows stand in its frame from the place on; one that is left was there, and its rows do not
pub record IsFound (p : PictureParts) (old new : Expected) : Type 0 where
  pub found : IfSome old.outcome (λ o. (new.outcome ≡ Some o) ⊎ HasRows p o.frame old.place (job_rows o.frame (job_of o)))
  pub left : IfSome new.outcome (λ o. (old.outcome ≡ Some o) × (StandsAt p o.frame old.place (job_rows o.frame (job_of o)) → ⊥))

-- a frame has so many rows, fewer than the greatest usize, and no outcome of it is left
pub record HasAll (p : PictureParts) (frame : ℕ) (es : List Expected) (count : ℕ) : Type 0 where
  pub less : count < most_of_usize
  pub rows : frame_len_in p frame ≡ Some count
  pub none : All (λ e. IfSome e.outcome (λ o. o.frame ≢ frame)) es
