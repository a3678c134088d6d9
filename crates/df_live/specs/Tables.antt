-- Tables as frames of a plan, and frames that come one after another.
use Rattle.std.specs.Prelude.{◌≡◌, ℕ, ◌<◌, ◌++◌, List, drop, length, map, slice_set, take}
use Rattle.std.specs.FinMap as finite
use Rattle.df_value.specs.Schemas.{Columns}
use Rattle.df_value.specs.declared.cell.CellType.{CellType}
use Rattle.df_column.specs.Tables.{TableParts, TaggedRows}
use Rattle.df_live.specs.Frames.{AreFrames, frame_at}

-- their rows
abbrev pub tables_of : List TableParts → List TaggedRows
tables_of tables = map (λ t. t.rows) tables

abbrev pub schemas_of : List TableParts → List (List (List ℕ × CellType))
schemas_of tables = map (λ t. t.schema) tables

-- the first of the frames, and empty ones in the place of the others
abbrev pub first_frames : ℕ → List TaggedRows → List TaggedRows
first_frames n frames = take n frames ++ map (λ _. finite.empty) (drop n frames)

-- the frame at f is there and empty, and the rows that come in its place leave frames of these schemas
pub record MayBeFilled (schemas : List Columns) (frames : List TaggedRows) (f : ℕ) (t : TaggedRows) : Type 0 where
  pub within : f < length frames
  pub empty : frame_at frames f ≡ finite.empty
  pub before : AreFrames schemas frames
  pub after : AreFrames schemas (slice_set frames f t)
