-- What is read of a state: the rows and numbers of frames, and views by name.
use Rattle.std.specs.Prelude.{ℕ, Bool, false, cond, List, [], ◌∷◌, length, map, Option, None, Result, option_map, unwrap_or, ok_or, find, slice_get, bytes_eq}
use Rattle.df_value.specs.declared.cell.Cell.{Cell}
use Rattle.df_value.specs.declared.cell.CellType.{CellType}
use Rattle.df_delta.specs.Deltas.{Changes}
use Rattle.df_plan.specs.CheckedParts.{CheckedParts}
use Rattle.df_state.specs.declared.state.CatalogueParts.{CatalogueParts}
use Rattle.df_state.specs.declared.state.State.{State}
use Rattle.df_state.specs.declared.state.ViewState.{ViewState}
use Rattle.df_state.specs.declared.fault.CatalogueFault.{CatalogueFault}
use Rattle.df_state.specs.declared.fault.CatalogueFault.TheVariants as fault
use Rattle.df_frame.specs.Frames.{is_row_at, rows_of, numbers_of}

-- the rows of a frame, and their numbers
abbrev pub frame_rows_of : State → ℕ → Result (List (List Cell)) CatalogueFault
frame_rows_of s f = ok_or (option_map rows_of (slice_get s.frames f)) fault.NoFrame

abbrev pub frame_numbers_of : State → ℕ → Result (List ℕ) CatalogueFault
frame_numbers_of s f = ok_or (option_map numbers_of (slice_get s.frames f)) fault.NoFrame

-- whether the row of a frame at this place has this number and these cells
abbrev pub is_row_of : State → ℕ → ℕ → ℕ → List Cell → Bool
is_row_of s f place n row = unwrap_or (option_map (λ x. is_row_at x place n row) (slice_get s.frames f)) false

-- how many numbers a frame accepted, how many of them were deleted, and how many rows it has
abbrev pub accepted_of : State → ℕ → Option ℕ
accepted_of s f = option_map (λ x. length x.accepted) (slice_get s.frames f)

abbrev pub deleted_of : State → ℕ → Option ℕ
deleted_of s f = option_map (λ x. length x.deleted) (slice_get s.frames f)

abbrev pub live_of : State → ℕ → Option ℕ
live_of s f = option_map (λ x. length x.rows) (slice_get s.frames f)

-- the view of a name
abbrev pub view_named : List ℕ → List ViewState → Option ViewState
view_named name views = find (λ v. bytes_eq v.name name) views

abbrev pub view_rows_of : State → List ℕ → Result (List (List Cell)) CatalogueFault
view_rows_of s name = ok_or (option_map (λ v. v.table) (view_named name s.views)) fault.NoView

abbrev pub view_plan_of : State → List ℕ → Option CheckedParts
view_plan_of s name = option_map (λ v. v.plan) (view_named name s.views)

abbrev pub view_schema_of : State → List ℕ → Option (List (List ℕ × CellType))
view_schema_of s name = option_map (λ p. p.schema) (view_plan_of s name)

abbrev pub view_names_of : State → List (List ℕ)
view_names_of s = map (λ v. v.name) s.views

-- of what is kept of each view's change, in their order, that of the view of a name
abbrev pub kept_of : List ℕ → List ViewState → List (Option Changes) → Option Changes
kept_of name [] changes = None
kept_of name (v ∷ vs) [] = None
kept_of name (v ∷ vs) (d ∷ ds) = cond (bytes_eq v.name name) d (kept_of name vs ds)

-- what the last change did to the view of a name, where it is kept
abbrev pub last_changes_of : CatalogueParts → List ℕ → Option Changes
last_changes_of c name = kept_of name c.state.views c.changes
