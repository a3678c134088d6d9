-- The check of the views: a view differs where its table has other rows than its plan gives over the frames.
use Rattle.std.specs.Prelude.{ℕ, Bool, not, List, Option, find, option_map}
use Rattle.std.specs.Cmp.Lexicographic.{pointwise}
use Rattle.df_value.specs.Rows.{row_eq}
use Rattle.df_state.specs.States.{value_over}
use Rattle.df_frame.specs.declared.state.FrameState.{FrameState}
use Rattle.df_state.specs.declared.state.State.{State}
use Rattle.df_state.specs.declared.state.ViewState.{ViewState}

-- whether the table of the view has other rows than its plan gives over these frames
abbrev pub differs : List FrameState → ViewState → Bool
differs frames v = not (pointwise row_eq v.table (value_over frames v.plan))

-- the name of the first view that differs
abbrev pub first_differing : State → Option (List ℕ)
first_differing s = option_map (λ v. v.name) (find (differs s.frames) s.views)
