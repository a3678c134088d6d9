-- A change that is not refused makes a legal state of a legal one.
use Rattle.std.proofs.Common.{◌≡◌, ℕ, ◌<◌, Bool, true, false, zero, suc, ◌∙◌, List, [], ◌∷◌, ◌++◌, length, map, refl, ap, sym, subst, arith, length-append}
use Rattle.std.specs.Prelude.{IsTrue, not, nat_le, Option, Some, None, option_map, slice_get, bytes_eq}
use Rattle.std.specs.List.{AllZip, IsDistinct}
use Rattle.std.proofs.lemmas.Bool.{leb-false}
use Rattle.std.proofs.lemmas.List.{map-append}
use Rattle.df_value.specs.declared.cell.Cell.{Cell}
use Rattle.df_value.specs.declared.cell.CellType.{CellType}
use Rattle.df_value.specs.Chunks.{ChunkParts}
use Rattle.df_frame.specs.Runs.{IsRun}
use Rattle.df_value.specs.Rows.{rows_fit}
use Rattle.df_plan.specs.CheckedParts.{CheckedParts}
use Rattle.df_state.specs.declared.state.State.{State}
use Rattle.df_frame.specs.declared.state.FrameState.{FrameState}
use Rattle.df_state.specs.declared.state.ViewState.{ViewState}
use Rattle.df_state.specs.declared.change.Change.{Change}
use Rattle.df_state.specs.declared.change.Change.TheVariants.{Append, Delete, Replace, Register, DropView}
use Rattle.df_state.specs.declared.fault.CatalogueFault.{CatalogueFault}
use Rattle.df_state.specs.declared.fault.CatalogueFault.TheVariants as fault
use Rattle.df_frame.specs.Frames.{with_chunk, with_replaced_rows, without_rows, IsFrame}
use Rattle.df_state.specs.Schemas.{schema_eq, schema_eq-Decides, schemas_eq, schemas_eq-Decides}
use Rattle.df_state.specs.States.{value_over, IsPlanOver, IsLegal}
use Rattle.df_state.specs.Refusals.{refusal_of, append_refusal, numbers_refusal, register_refusal, replace_refusal, first_reason, reason_if, has_view}
use Rattle.df_frame.specs.Refusals.{first_taken, would_be_full}
use Rattle.df_state.specs.Changes.{after, change_at, view_over, refreshed_views, without_view, IsSound}
use Rattle.df_frame.proofs.FrameFacts.{frame-with_chunk, frame-with_replaced_rows, frame-without_rows}
use Rattle.df_state.proofs.ViewFacts.{refreshed_views-names, refreshed_views-has, refreshed_views-tables, refreshed_views-length, refreshed_views-plans, plans-push, names-push, names-filter, plans-filter, no-longer}

abbrev Columns : Type 0
Columns = List (List ℕ × CellType)

-- frames stay sound, if the one that changes does
pub frames-change :
    (f : ℕ) (change : FrameState → FrameState) (schemas : List Columns) (frames : List FrameState) →
    AllZip IsFrame schemas frames →
    ((schema : Columns) (frame : FrameState) → slice_get schemas f ≡ Some schema → slice_get frames f ≡ Some frame → IsFrame schema frame → IsFrame schema (change frame)) →
    AllZip IsFrame schemas (change_at f change frames)
frames-change f change [] [] h k = h
frames-change f change [] (x ∷ xs) h k = absurd h
frames-change f change (s ∷ ss) [] h k = absurd h
frames-change zero change (s ∷ ss) (x ∷ xs) h k = (k s x refl refl h.0, h.1)
frames-change (suc f) change (s ∷ ss) (x ∷ xs) h k = (h.0, frames-change f change ss xs h.1 k)

no-reason :
    (b d : Bool) (o : Option ℕ) →
    first_reason (reason_if (not b) fault.SchemaUnlike ∷ option_map fault.Taken o ∷ reason_if d fault.Full ∷ []) ≡ None →
    (b ≡ true) × (o ≡ None) × (d ≡ false)
no-reason true true None h = cc
no-reason true false None h = (refl, refl, refl)
no-reason true d (Some n) h = cc
no-reason false d o h = cc

-- what is known of a chunk that is not refused
pub append-accepted :
    (c : ChunkParts) (schema : Columns) (frame : FrameState) → append_refusal c (Some schema) (Some frame) ≡ None →
    (c.schema ≡ schema) × (first_taken frame c ≡ None) × (would_be_full frame c ≡ false)
append-accepted c schema frame h =
    let k = no-reason (schema_eq c.schema schema) (would_be_full frame c) (first_taken frame c) h in
    ((schema_eq-Decides c.schema schema).0 k.0, k.1, k.2)

no-reason-to-replace :
    (b : Bool) (o : Option CatalogueFault) → first_reason (reason_if (not b) fault.SchemaUnlike ∷ o ∷ []) ≡ None → (b ≡ true) × (o ≡ None)
no-reason-to-replace true None h = (refl, refl)
no-reason-to-replace true (Some f) h = cc
no-reason-to-replace false o h = cc

-- what is known of new rows that are not refused
pub replace-accepted :
    (rows : List (ℕ × List Cell)) (schema : Columns) (frame : FrameState) → replace_refusal rows (Some schema) (Some frame) ≡ None →
    (rows_fit schema (map (λ r. r.1) rows) ≡ true) × (numbers_refusal (map (λ r. r.0) rows) frame ≡ None)
replace-accepted rows schema frame h =
    no-reason-to-replace (rows_fit schema (map (λ r. r.1) rows)) (numbers_refusal (map (λ r. r.0) rows) frame) h

no-reason-to-register :
    (b d e : Bool) →
    first_reason (reason_if b fault.ViewExists ∷ reason_if d fault.TooManyViews ∷ reason_if (not e) fault.PlanUnlike ∷ []) ≡ None →
    (b ≡ false) × (d ≡ false) × (e ≡ true)
no-reason-to-register true d e h = cc
no-reason-to-register false true e h = cc
no-reason-to-register false false true h = (refl, refl, refl)
no-reason-to-register false false false h = cc

-- what is known of a view that is not refused
pub register-accepted :
    (name : List ℕ) (p : CheckedParts) (s : State) → register_refusal name p s ≡ None →
    (has_view name s.views ≡ false) × (length s.views < 32) × (p.frames ≡ s.schemas)
register-accepted name p s h =
    let k = no-reason-to-register (has_view name s.views) (nat_le 32 (length s.views)) (schemas_eq p.frames s.schemas) h in
    (k.0, leb-false 32 (length s.views) k.1, (schemas_eq-Decides p.frames s.schemas).0 k.2)

-- a state whose frames change and stay sound
with-frames : (s : State) (frames : List FrameState) → IsLegal s → AllZip IsFrame s.schemas frames → IsLegal (record { schemas = s.schemas; frames = frames; views = refreshed_views frames s.views })
with-frames s frames h sound = record {
  few_frames = h.few_frames;
  base = h.base;
  frames = sound;
  few_views = let same = refreshed_views-length frames s.views in let few = h.few_views in omega (arith, same, few);
  names = subst (IsDistinct bytes_eq) (sym (refreshed_views-names frames s.views)) h.names;
  plans = refreshed_views-plans (IsPlanOver s.schemas) frames s.views h.plans;
  tables = refreshed_views-tables frames s.views;
}

append-frame :
    (s : State) (f : ℕ) (c : ChunkParts) → IsRun c.schema c.first c.rows → refusal_of s (Append f c) ≡ None →
    (schema : Columns) (frame : FrameState) → slice_get s.schemas f ≡ Some schema → slice_get s.frames f ≡ Some frame →
    IsFrame schema frame → IsFrame schema (with_chunk c frame)
append-frame s f c sound free schema frame e g h =
    let known = append-accepted c schema frame (ap (λ o. append_refusal c o (Some frame)) (sym e) ∙ (ap (append_refusal c (slice_get s.schemas f)) (sym g) ∙ free)) in
    frame-with_chunk schema c frame (subst (λ s. IsTrue (rows_fit s c.rows)) known.0 sound.fitting) sound.numbered h known.1 known.2

replace-frame :
    (s : State) (f : ℕ) (rows : List (ℕ × List Cell)) → refusal_of s (Replace f rows) ≡ None →
    (schema : Columns) (frame : FrameState) → slice_get s.schemas f ≡ Some schema → slice_get s.frames f ≡ Some frame →
    IsFrame schema frame → IsFrame schema (with_replaced_rows rows frame)
replace-frame s f rows free schema frame e g h =
    let known = replace-accepted rows schema frame (ap (λ o. replace_refusal rows o (Some frame)) (sym e) ∙ (ap (replace_refusal rows (slice_get s.schemas f)) (sym g) ∙ free)) in
    frame-with_replaced_rows schema rows frame known.0 h

pub legal-after : (s : State) (c : Change) → IsLegal s → IsSound c → refusal_of s c ≡ None → IsLegal (after s c)
legal-after s (Append f c) h sound free =
    with-frames s (change_at f (with_chunk c) s.frames) h
    (frames-change f (with_chunk c) s.schemas s.frames h.frames (append-frame s f c sound free))
legal-after s (Delete f ns) h sound free =
    with-frames s (change_at f (without_rows ns) s.frames) h
    (frames-change f (without_rows ns) s.schemas s.frames h.frames (λ schema frame e g k. frame-without_rows schema ns frame k))
legal-after s (Replace f rows) h sound free =
    with-frames s (change_at f (with_replaced_rows rows) s.frames) h
    (frames-change f (with_replaced_rows rows) s.schemas s.frames h.frames (replace-frame s f rows free))
legal-after s (Register name p) h sound free =
    let known = register-accepted name p s free in
    let new : ViewState = view_over s.frames name p in
    let old : List ViewState = refreshed_views s.frames s.views in
    let long = length-append old (new ∷ []) in
    let same = refreshed_views-length s.frames s.views in
    let few = known.1 in record {
      few_frames = h.few_frames;
      base = h.base;
      frames = h.frames;
      few_views = omega (arith, long, same, few);
      names = names-push old new (subst (IsDistinct bytes_eq) (sym (refreshed_views-names s.frames s.views)) h.names) (refreshed_views-has name s.frames s.views ∙ known.0);
      plans = plans-push (IsPlanOver s.schemas) old new (refreshed_views-plans (IsPlanOver s.schemas) s.frames s.views h.plans) (record { frames = known.2; checks = sound });
      tables =
          map-append (λ v. v.table) old (new ∷ [])
          ∙ (ap (λ ts. ts ++ value_over s.frames p ∷ []) (refreshed_views-tables s.frames s.views)
          ∙ sym (map-append (λ v. value_over s.frames v.plan) old (new ∷ [])));
    }
legal-after s (DropView name) h sound free =
    let left : List ViewState = without_view name s.views in
    let test : ViewState → Bool = λ v. not (bytes_eq v.name name) in
    let same = refreshed_views-length s.frames left in
    let fewer = no-longer test s.views in
    let few = h.few_views in record {
      few_frames = h.few_frames;
      base = h.base;
      frames = h.frames;
      few_views = omega (arith, same, fewer, few);
      names = subst (IsDistinct bytes_eq) (sym (refreshed_views-names s.frames left)) (names-filter test s.views h.names);
      plans = refreshed_views-plans (IsPlanOver s.schemas) s.frames left (plans-filter (IsPlanOver s.schemas) test s.views h.plans);
      tables = refreshed_views-tables s.frames left;
    }
