-- Why a change is refused: the first reason that fits. The reasons and their order are this project's own rule.
use Rattle.std.specs.Prelude.{ℕ, Bool, not, nat_le, List, [], ◌∷◌, length, slice_get, bytes_eq}
use Rattle.std.specs.Prelude.{Option, Some, None, map, option_map, if◌then◌else◌}
use Rattle.std.specs.List.{list_any}
use Rattle.df_value.specs.declared.cell.Cell.{Cell}
use Rattle.df_value.specs.declared.cell.CellType.{CellType}
use Rattle.df_value.specs.Chunks.{ChunkParts}
use Rattle.df_value.specs.Rows.{rows_fit}
use Rattle.df_plan.specs.CheckedParts.{CheckedParts}
use Rattle.df_state.specs.declared.state.State.{State}
use Rattle.df_frame.specs.declared.state.FrameState.{FrameState}
use Rattle.df_state.specs.declared.state.ViewState.{ViewState}
use Rattle.df_state.specs.declared.change.Change.{Change}
use Rattle.df_state.specs.declared.change.Change.TheVariants.{Append, Delete, Replace, Register, DropView}
use Rattle.df_state.specs.declared.fault.CatalogueFault.{CatalogueFault}
use Rattle.df_state.specs.declared.fault.CatalogueFault.TheVariants as fault
use Rattle.df_value.specs.Limits as limits
use Rattle.df_frame.specs.Refusals.{doubled_number_after, first_accepted, first_not_live, has_no_room}
use Rattle.df_state.specs.Schemas.{schema_eq, schemas_eq}

-- the first reason of these that is there
abbrev pub first_reason : List (Option CatalogueFault) → Option CatalogueFault
first_reason [] = None
first_reason (None ∷ later) = first_reason later
first_reason (Some f ∷ later) = Some f

-- a reason that is there where a test passes
abbrev pub reason_if : Bool → CatalogueFault → Option CatalogueFault
reason_if b f = if b then Some f else None

-- whether a view has this name
abbrev pub has_view : List ℕ → List ViewState → Bool
has_view name views = list_any (λ v. bytes_eq v.name name) views

-- why so many rows of a schema, numbered from a first number on, cannot come
abbrev pub coming_refusal : List (List ℕ × CellType) → ℕ → ℕ → Option (List (List ℕ × CellType)) → Option FrameState → Option CatalogueFault
coming_refusal columns first count None f = Some fault.NoFrame
coming_refusal columns first count (Some schema) None = Some fault.NoFrame
coming_refusal columns first count (Some schema) (Some f) = first_reason (
    reason_if (not (schema_eq columns schema)) fault.SchemaUnlike
    ∷ option_map fault.Taken (first_accepted f first count)
    ∷ reason_if (has_no_room f count) fault.Full
    ∷ []
    )

-- why the rows of a chunk cannot
abbrev pub append_refusal : ChunkParts → Option (List (List ℕ × CellType)) → Option FrameState → Option CatalogueFault
append_refusal c schema f = coming_refusal c.schema c.first (length c.rows) schema f

-- why the rows of these numbers cannot be taken out or replaced
abbrev pub numbers_refusal : List ℕ → FrameState → Option CatalogueFault
numbers_refusal ns f = first_reason (
    option_map fault.Doubled (doubled_number_after [] ns)
    ∷ option_map fault.NotLive (first_not_live f ns)
    ∷ []
    )

abbrev pub delete_refusal : List ℕ → Option FrameState → Option CatalogueFault
delete_refusal ns None = Some fault.NoFrame
delete_refusal ns (Some f) = numbers_refusal ns f

abbrev pub replace_refusal :
    List (ℕ × List Cell) → Option (List (List ℕ × CellType)) → Option FrameState → Option CatalogueFault
replace_refusal rows None f = Some fault.NoFrame
replace_refusal rows (Some schema) None = Some fault.NoFrame
replace_refusal rows (Some schema) (Some f) = first_reason (
    reason_if (not (rows_fit schema (map (λ r. r.1) rows))) fault.SchemaUnlike
    ∷ numbers_refusal (map (λ r. r.0) rows) f
    ∷ []
    )

abbrev pub register_refusal : List ℕ → CheckedParts → State → Option CatalogueFault
register_refusal name p s = first_reason (
    reason_if (has_view name s.views) fault.ViewExists
    ∷ reason_if (nat_le limits.most_views (length s.views)) fault.TooManyViews
    ∷ reason_if (not (schemas_eq p.frames s.schemas)) fault.PlanUnlike
    ∷ []
    )

-- why a state refuses a change, if it does; that memory is refused is no reason of these
abbrev pub refusal_of : State → Change → Option CatalogueFault
refusal_of s (Append f c) = append_refusal c (slice_get s.schemas f) (slice_get s.frames f)
refusal_of s (Delete f ns) = delete_refusal ns (slice_get s.frames f)
refusal_of s (Replace f rows) = replace_refusal rows (slice_get s.schemas f) (slice_get s.frames f)
refusal_of s (Register name p) = register_refusal name p s
refusal_of s (DropView name) = reason_if (not (has_view name s.views)) fault.NoView
