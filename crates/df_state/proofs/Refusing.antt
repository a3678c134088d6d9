-- No reason to refuse a change is that memory was refused.
use Rattle.std.proofs.Common.{◌≡◌, ◌≢◌, ℕ, Bool, true, false, List, [], ◌∷◌, refl}
use Rattle.std.specs.Prelude.{not, nat_le, length, map, Option, Some, None, option_map, slice_get}
use Rattle.df_value.specs.declared.cell.Cell.{Cell}
use Rattle.df_value.specs.declared.cell.CellType.{CellType}
use Rattle.df_value.specs.Chunks.{ChunkParts}
use Rattle.df_value.specs.Rows.{rows_fit}
use Rattle.df_plan.specs.CheckedParts.{CheckedParts}
use Rattle.df_state.specs.declared.state.State.{State}
use Rattle.df_frame.specs.declared.state.FrameState.{FrameState}
use Rattle.df_state.specs.declared.change.Change.{Change}
use Rattle.df_state.specs.declared.change.Change.TheVariants.{Append, Delete, Replace, Register, DropView}
use Rattle.df_state.specs.declared.fault.CatalogueFault.{CatalogueFault}
use Rattle.df_state.specs.declared.fault.CatalogueFault.TheVariants as fault
use Rattle.df_state.specs.Schemas.{schema_eq, schemas_eq}
use Rattle.df_state.specs.Refusals.{refusal_of, append_refusal, delete_refusal, numbers_refusal, register_refusal, replace_refusal, first_reason, reason_if, has_view}
use Rattle.df_frame.specs.Refusals.{first_taken, would_be_full, doubled_number_after, first_not_live}
use Rattle.df_state.specs.Answers.{RefusedBy}

of-append :
    (b d : Bool) (o : Option ℕ) (f : CatalogueFault) →
    first_reason (reason_if (not b) fault.SchemaUnlike ∷ option_map fault.Taken o ∷ reason_if d fault.Full ∷ []) ≡ Some f → f ≢ fault.Memory
of-append true true None f h = λ m. cc
of-append true false None f h = λ m. cc
of-append true d (Some n) f h = λ m. cc
of-append false d o f h = λ m. cc

of-delete :
    (o p : Option ℕ) (f : CatalogueFault) →
    first_reason (option_map fault.Doubled o ∷ option_map fault.NotLive p ∷ []) ≡ Some f → f ≢ fault.Memory
of-delete (Some n) p f h = λ m. cc
of-delete None (Some n) f h = λ m. cc
of-delete None None f h = λ m. cc

of-replace :
    (b : Bool) (o : Option CatalogueFault) (f : CatalogueFault) → ((g : CatalogueFault) → o ≡ Some g → g ≢ fault.Memory) →
    first_reason (reason_if (not b) fault.SchemaUnlike ∷ o ∷ []) ≡ Some f → f ≢ fault.Memory
of-replace true None f k h = λ m. cc
of-replace true (Some g) f k h = k f h
of-replace false o f k h = λ m. cc

of-register :
    (b d e : Bool) (f : CatalogueFault) →
    first_reason (reason_if b fault.ViewExists ∷ reason_if d fault.TooManyViews ∷ reason_if (not e) fault.PlanUnlike ∷ []) ≡ Some f → f ≢ fault.Memory
of-register true d e f h = λ m. cc
of-register false true e f h = λ m. cc
of-register false false true f h = λ m. cc
of-register false false false f h = λ m. cc

of-drop : (b : Bool) (f : CatalogueFault) → reason_if (not b) fault.NoView ≡ Some f → f ≢ fault.Memory
of-drop true f h = λ m. cc
of-drop false f h = λ m. cc

at-append :
    (c : ChunkParts) (schema : Option (List (List ℕ × CellType))) (frame : Option FrameState) (f : CatalogueFault) →
    append_refusal c schema frame ≡ Some f → f ≢ fault.Memory
at-append c None frame f h = λ m. cc
at-append c (Some schema) None f h = λ m. cc
at-append c (Some schema) (Some x) f h = of-append (schema_eq c.schema schema) (would_be_full x c) (first_taken x c) f h

at-numbers : (ns : List ℕ) (frame : FrameState) (f : CatalogueFault) → numbers_refusal ns frame ≡ Some f → f ≢ fault.Memory
at-numbers ns frame f h = of-delete (doubled_number_after [] ns) (first_not_live frame ns) f h

at-delete : (ns : List ℕ) (frame : Option FrameState) (f : CatalogueFault) → delete_refusal ns frame ≡ Some f → f ≢ fault.Memory
at-delete ns None f h = λ m. cc
at-delete ns (Some x) f h = at-numbers ns x f h

at-replace :
    (rows : List (ℕ × List Cell)) (schema : Option (List (List ℕ × CellType))) (frame : Option FrameState) (f : CatalogueFault) →
    replace_refusal rows schema frame ≡ Some f → f ≢ fault.Memory
at-replace rows None frame f h = λ m. cc
at-replace rows (Some schema) None f h = λ m. cc
at-replace rows (Some schema) (Some x) f h =
    of-replace (rows_fit schema (map (λ r. r.1) rows)) (numbers_refusal (map (λ r. r.0) rows) x) f (λ g e. at-numbers (map (λ r. r.0) rows) x g e) h

pub never-memory : (s : State) (c : Change) (f : CatalogueFault) → refusal_of s c ≡ Some f → f ≢ fault.Memory
never-memory s (Append i c) f h = at-append c (slice_get s.schemas i) (slice_get s.frames i) f h
never-memory s (Delete i ns) f h = at-delete ns (slice_get s.frames i) f h
never-memory s (Replace i rows) f h = at-replace rows (slice_get s.schemas i) (slice_get s.frames i) f h
never-memory s (Register name p) f h =
    of-register (has_view name s.views) (nat_le 32 (length s.views)) (schemas_eq p.frames s.schemas) f h
never-memory s (DropView name) f h = of-drop (has_view name s.views) f h

-- a reason is a refusal
pub by-reason : (s : State) (c : Change) (f : CatalogueFault) → refusal_of s c ≡ Some f → RefusedBy s c f
by-reason s c f h = record { exact = λ _. h; memory_last = λ m. absurd (never-memory s c f h m); memory_taken = λ m. absurd (never-memory s c f h m) }

-- why a view is refused, by what is known of its name, of the number of views and of its plan
pub register-answer :
    (name : List ℕ) (p : CheckedParts) (s : State) (b d e : Bool) → has_view name s.views ≡ b → nat_le 32 (length s.views) ≡ d → schemas_eq p.frames s.schemas ≡ e →
    register_refusal name p s ≡ first_reason (reason_if b fault.ViewExists ∷ reason_if d fault.TooManyViews ∷ reason_if (not e) fault.PlanUnlike ∷ [])
register-answer name p s b d e x y z = rw (x, y, z) refl
