-- What a change makes of a state: of its frames, of its views, and then every view's table is taken anew.
use Rattle.std.specs.Prelude.{◌≡◌, ℕ, zero, suc, not, ⊤, Ok, List, [], ◌∷◌, ◌++◌, length, map, filter, bytes_eq}
use Rattle.df_frame.specs.Runs.{IsRun}
use Rattle.df_plan.specs.CheckedParts.{CheckedParts}
use Rattle.df_plan.specs.Checks.{plan_check}
use Rattle.df_state.specs.declared.state.State.{State}
use Rattle.df_frame.specs.declared.state.FrameState.{FrameState}
use Rattle.df_state.specs.declared.state.ViewState.{ViewState}
use Rattle.df_state.specs.declared.change.Change.{Change}
use Rattle.df_state.specs.declared.change.Change.TheVariants.{Append, Delete, Replace, Register, DropView}
use Rattle.df_frame.specs.Frames.{with_chunk, with_replaced_rows, without_rows}
use Rattle.df_state.specs.States.{value_over}

-- the items with that of this index changed
abbrev pub change_at : {T : Type 0} → ℕ → (T → T) → List T → List T
change_at i change [] = []
change_at zero change (x ∷ xs) = change x ∷ xs
change_at (suc i) change (x ∷ xs) = x ∷ change_at i change xs

-- the frames after a change
abbrev pub frames_after : List FrameState → Change → List FrameState
frames_after frames (Append f c) = change_at f (with_chunk c) frames
frames_after frames (Delete f ns) = change_at f (without_rows ns) frames
frames_after frames (Replace f rows) = change_at f (with_replaced_rows rows) frames
frames_after frames (Register name p) = frames
frames_after frames (DropView name) = frames

-- a view whose table is its plan's value over these frames
abbrev pub view_over : List FrameState → List ℕ → CheckedParts → ViewState
view_over frames name p = record { name = name; plan = p; table = value_over frames p }

-- the views with their tables taken anew
abbrev pub refreshed_views : List FrameState → List ViewState → List ViewState
refreshed_views frames views = map (λ v. view_over frames v.name v.plan) views

-- the views of other names
abbrev pub without_view : List ℕ → List ViewState → List ViewState
without_view name views = filter (λ v. not (bytes_eq v.name name)) views

-- the views after a change, over the frames after it
abbrev pub views_after : List FrameState → List ViewState → Change → List ViewState
views_after frames views (Append f c) = refreshed_views frames views
views_after frames views (Delete f ns) = refreshed_views frames views
views_after frames views (Replace f rows) = refreshed_views frames views
views_after frames views (Register name p) = refreshed_views frames views ++ view_over frames name p ∷ []
views_after frames views (DropView name) = refreshed_views frames (without_view name views)

-- the state after a change that is not refused
abbrev pub after : State → Change → State
after s c = let frames = frames_after s.frames c in record {
  schemas = s.schemas;
  frames = frames;
  views = views_after frames s.views c;
}

-- how many rows a change adds, and how many it takes out
abbrev pub accepted_rows : Change → ℕ
accepted_rows (Append f c) = length c.rows
accepted_rows (Delete f ns) = 0
accepted_rows (Replace f rows) = 0
accepted_rows (Register name p) = 0
accepted_rows (DropView name) = 0

abbrev pub deleted_rows : Change → ℕ
deleted_rows (Append f c) = 0
deleted_rows (Delete f ns) = length ns
deleted_rows (Replace f rows) = 0
deleted_rows (Register name p) = 0
deleted_rows (DropView name) = 0

-- a change that code can make: the rows that come are a run, its plan was checked
abbrev pub IsSound : Change → Type 0
IsSound (Append f c) = IsRun c.schema c.first c.rows
IsSound (Delete f ns) = ⊤
IsSound (Replace f rows) = ⊤
IsSound (Register name p) = plan_check p.plan p.frames ≡ Ok p.schema
IsSound (DropView name) = ⊤
