-- The frames that a plan scans, as tagged rows.
use Rattle.std.specs.Prelude.{ℕ, IsTrue, List, map, slice_index_or, slice_set}
use Rattle.std.specs.FinMap as finite
use Rattle.df_value.specs.declared.cell.Cell.{Cell}
use Rattle.df_value.specs.Schemas.{Columns}
use Rattle.df_column.specs.Changes.{applied}
use Rattle.df_column.specs.Tables.{TaggedRows}
use Rattle.df_delta.specs.Deltas.{Changes}
use Rattle.df_join.specs.Spread.{HasKeys, IsTagOver}
use Rattle.df_plan.specs.Meaning.{frames_fit}

-- the rows of the frame, none where there is no such frame
abbrev pub frame_at : List TaggedRows → ℕ → TaggedRows
frame_at frames f = slice_index_or frames f finite.empty

-- the frames after a delta of one of them
abbrev pub changed : List TaggedRows → ℕ → Changes → List TaggedRows
changed frames f d = slice_set frames f (applied (frame_at frames f) d)

-- the frames' rows without their tags
abbrev pub rows_of_frames : List TaggedRows → List (List (List Cell))
rows_of_frames frames = map (λ t. finite.values t) frames

-- there is a frame for each schema, whose rows fit it and stand at the tags of a scan
pub record AreFrames (schemas : List Columns) (frames : List TaggedRows) : Type 0 where
  pub fit : IsTrue (frames_fit schemas (rows_of_frames frames))
  pub tags : (f : ℕ) → HasKeys (IsTagOver 1) (frame_at frames f)
