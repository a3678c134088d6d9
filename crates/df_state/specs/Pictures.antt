-- What readers see of a state: the rows of its frames behind their numbers, and its views by name with their rows.
use Rattle.std.specs.Prelude.{◌≡◌, ◌+◌, ◌≤◌, ℕ, IsSomeAnd, List, length, map, Option, Some, option_and_then, option_map, unwrap_or, ok_or, find, slice_get, bytes_eq, Result}
use Rattle.df_value.specs.declared.cell.Cell.{Cell}
use Rattle.df_state.specs.declared.fault.CatalogueFault.{CatalogueFault}
use Rattle.df_state.specs.declared.fault.CatalogueFault.TheVariants as fault
use Rattle.df_state.specs.declared.picture.PicturedView.{PicturedView}
use Rattle.df_state.specs.declared.state.CatalogueParts.{CatalogueParts}
use Rattle.df_state.specs.declared.state.State.{State}
use Rattle.df_state.specs.declared.state.ViewState.{ViewState}
use Rattle.df_column.specs.Tables.{TableParts}
use Rattle.df_plan.specs.CheckedParts.{CheckedParts}
use Rattle.df_plan.specs.Meaning.{table_of}
use Rattle.std.specs.FinMap as finite
use Rattle.std.specs.List.{AllByRecursion}
use Rattle.df_frame.specs.FrameTables.{IsNumberedTable, numbered_rows}
use Rattle.df_state.specs.States.{IsLegal}

-- the rows of each frame behind their numbers, by rising number, and each view's name with its rows, in order of
-- registration
pub record PictureParts : Type 0 where
  pub frames : List (List (ℕ × List Cell))
  pub views : List (List ℕ × List (List Cell))

-- a view's name with its rows
abbrev pub named_rows : ViewState → List ℕ × List (List Cell)
named_rows v = (v.name, v.table)

-- the picture of a state
abbrev pub picture_of : State → PictureParts
picture_of s = record { frames = map (λ f. f.rows) s.frames; views = map named_rows s.views }

-- the state once what is staged is committed; the state now where nothing is
abbrev pub next_state : CatalogueParts → State
next_state c = unwrap_or (option_map (λ s. s.state) c.staged) c.state

-- what contracts see of a picture's tables
abbrev pub numbered_rows_in : TableParts → List (ℕ × List Cell)
numbered_rows_in t = numbered_rows t.rows

abbrev pub rows_in : TableParts → List (List Cell)
rows_in t = finite.values t.rows

abbrev pub named_rows_in : PicturedView → List ℕ × List (List Cell)
named_rows_in v = (v.name, rows_in v.table)

-- the tag of each row of each table is that of a number below 2^32
abbrev pub AreNumberedTables : List TableParts → Type 0
AreNumberedTables tables = AllByRecursion (λ t. IsNumberedTable t.rows) tables

-- it is the picture of a legal state
abbrev pub IsPictureOfLegal : PictureParts → Type 0
IsPictureOfLegal p = (s : State) × IsLegal s × (p ≡ picture_of s)

-- what is read of a picture: the rows of a frame, their numbers, and how many they are
abbrev pub frame_rows_in : PictureParts → ℕ → Result (List (List Cell)) CatalogueFault
frame_rows_in p f = ok_or (option_map (map (λ r. r.1)) (slice_get p.frames f)) fault.NoFrame

abbrev pub frame_numbers_in : PictureParts → ℕ → Result (List ℕ) CatalogueFault
frame_numbers_in p f = ok_or (option_map (map (λ r. r.0)) (slice_get p.frames f)) fault.NoFrame

abbrev pub frame_len_in : PictureParts → ℕ → Option ℕ
frame_len_in p f = option_map length (slice_get p.frames f)

-- a frame has so many rows from a place on
abbrev pub ReachesIn : PictureParts → ℕ → ℕ → ℕ → Type 0
ReachesIn p f place count = IsSomeAnd (frame_len_in p f) (λ n. place + count ≤ n)

-- the row at a place of a frame, behind its number
abbrev pub row_in : PictureParts → ℕ → ℕ → Option (ℕ × List Cell)
row_in p f place = option_and_then (λ rows. slice_get rows place) (slice_get p.frames f)

-- these rows stand in a frame from a place on, the first under this number, each further one under the next
pub record AreRowsIn (p : PictureParts) (f place n : ℕ) (rows : List (List Cell)) : Type 0 where
  pub at : (k : ℕ) (row : List Cell) → slice_get rows k ≡ Some row → row_in p f (place + k) ≡ Some (n + k, row)

-- the rows of the view of a name
abbrev pub view_rows_in : PictureParts → List ℕ → Result (List (List Cell)) CatalogueFault
view_rows_in p name = ok_or (option_map (λ v. v.1) (find (λ v. bytes_eq v.0 name) p.views)) fault.NoView

-- the value of a plan over the frames
abbrev pub value_in : PictureParts → CheckedParts → List (List Cell)
value_in p plan = (table_of plan.plan plan.frames (map (map (λ r. r.1)) p.frames)).rows
