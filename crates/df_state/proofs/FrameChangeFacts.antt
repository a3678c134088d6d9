-- What a change of one frame that is not refused makes of a state, of its books and of the desks.
use Rattle.std.proofs.Common.{◌≡◌, ℕ, ◌+◌, ◌<◌, zero, suc, ◌∙◌, List, [], ◌∷◌, map, length, refl, ap, sym, subst, arith, get_or}
use Rattle.std.specs.Prelude.{Option, Some, None, Result, option_map, slice_get, slice_index_or, slice_set}
use Rattle.std.specs.List.{AllZip}
use Rattle.std.proofs.lemmas.Result.{on_err_weaker, on_ok_weaker}
use Rattle.std.proofs.lemmas.List.{set-get_or}
use Rattle.std.proofs.lemmas.Option.{slice_get_read, slice_get_within}
use Rattle.std.proofs.lemmas.List.{map-set}
use Rattle.df_value.specs.declared.cell.Cell.{Cell}
use Rattle.df_value.specs.declared.cell.CellType.{CellType}
use Rattle.df_value.specs.Chunks.{ChunkParts}
use Rattle.df_state.specs.declared.state.State.{State}
use Rattle.df_frame.specs.declared.state.FrameState.{FrameState}
use Rattle.df_state.specs.declared.change.Change.TheVariants as change
use Rattle.df_frame.specs.declared.frame_change.FrameChange.{FrameChange}
use Rattle.df_frame.specs.declared.frame_change.FrameChange.TheVariants.{Append, Delete, Prepared, Replace}
use Rattle.df_state.specs.declared.fault.CatalogueFault.{CatalogueFault}
use Rattle.df_state.specs.declared.fault.CatalogueFault.TheVariants as fault
use Rattle.df_state.specs.Changes.{accepted_rows, after, change_at, deleted_rows, refreshed_views, IsSound}
use Rattle.df_state.specs.Desks.{DeskParts, accepted_in, deleted_in, desk_after, desks_after}
use Rattle.df_state.specs.FrameChanges.{change_of, frame_refusal}
use Rattle.df_frame.specs.FrameChanges as of_frame
use Rattle.df_frame.specs.FrameChanges.{frame_after, FrameTakes, TakesChunk, TakesNumbers}
use Rattle.df_frame.specs.FrameParts.{FrameParts, schemas_of, states_of}
use Rattle.df_frame.specs.Frames.{IsFrame, IsNumbered}
use Rattle.df_state.specs.Refusals.{refusal_of, append_refusal, delete_refusal, first_reason, numbers_refusal, replace_refusal}
use Rattle.df_frame.specs.Refusals.{doubled_number_after, first_not_live}
use Rattle.df_state.specs.States.{IsLegal}
use Rattle.df_state.specs.Transitions.{IsTransitionOfDesk, IsTransitionOfDesks}
use Rattle.df_state.proofs.Books.{sum-change}
use Rattle.df_state.proofs.SoundFrames.{numbered-at}
use Rattle.df_frame.proofs.FrameChangeFacts.{frame-accepted, frame-deleted}
use Rattle.df_state.proofs.Legal.{append-accepted, replace-accepted}
use Rattle.df_state.proofs.StateFacts.{change-set}

abbrev Columns : Type 0
Columns = List (List ℕ × CellType)

-- frames refuse the change for the reason for which a state of them does
pub refusal-of-frames : (s : State) (f : ℕ) (c : FrameChange) → frame_refusal s.schemas s.frames f c ≡ refusal_of s (change_of f c)
refusal-of-frames s f (Append chunk) = refl
refusal-of-frames s f (Prepared chunk) = refl
refusal-of-frames s f (Delete ns) = refl
refusal-of-frames s f (Replace rows) = refl

append-there :
    (c : ChunkParts) (o : Option Columns) (p : Option FrameState) → append_refusal c o p ≡ None →
    (schema : Columns) × (frame : FrameState) × (o ≡ Some schema) × (p ≡ Some frame)
append-there c None p h = cc
append-there c (Some schema) None h = cc
append-there c (Some schema) (Some frame) h = (schema, frame, refl, refl)

delete-there : (ns : List ℕ) (p : Option FrameState) → delete_refusal ns p ≡ None → (frame : FrameState) × (p ≡ Some frame)
delete-there ns None h = cc
delete-there ns (Some frame) h = (frame, refl)

replace-there :
    (rows : List (ℕ × List Cell)) (o : Option Columns) (p : Option FrameState) → replace_refusal rows o p ≡ None →
    (schema : Columns) × (frame : FrameState) × (o ≡ Some schema) × (p ≡ Some frame)
replace-there rows None p h = cc
replace-there rows (Some schema) None h = cc
replace-there rows (Some schema) (Some frame) h = (schema, frame, refl, refl)

no-reason :
    (o p : Option ℕ) → first_reason (option_map fault.Doubled o ∷ option_map fault.NotLive p ∷ []) ≡ None → (o ≡ None) × (p ≡ None)
no-reason (Some n) p h = cc
no-reason None (Some n) h = cc
no-reason None None h = (refl, refl)

takes-numbers : (x : FrameState) (ns : List ℕ) → numbers_refusal ns x ≡ None → TakesNumbers x ns
takes-numbers x ns h = no-reason (doubled_number_after [] ns) (first_not_live x ns) h

-- what is known of the frame of a change that is not refused
pub record IsChangeable (s : State) (f : ℕ) (c : FrameChange) (x : FrameState) : Type 0 where
  pub within : f < length s.frames
  pub at : slice_get s.frames f ≡ Some x
  pub numbered : IsNumbered x
  pub takes : FrameTakes x c

changeable-at :
    (s : State) (f : ℕ) (c : FrameChange) (x : FrameState) → IsLegal s → x ≡ get_or s.frames f x → f < length s.frames →
    (slice_get s.frames f ≡ Some x → FrameTakes x c) → IsChangeable s f c x
changeable-at s f c x h lent within takes =
    let at : slice_get s.frames f ≡ Some x = slice_get_read s.frames (length s.frames) f x refl within lent in
    record { within = within; at = at; numbered = numbered-at s.schemas s.frames f x h.frames at; takes = takes at }

takes-chunk :
    (s : State) (f : ℕ) (chunk : ChunkParts) (x : FrameState) → append_refusal chunk (slice_get s.schemas f) (slice_get s.frames f) ≡ None →
    slice_get s.frames f ≡ Some x → TakesChunk x chunk
takes-chunk s f chunk x free at =
    let there = append-there chunk (slice_get s.schemas f) (slice_get s.frames f) free in
    let known = append-accepted chunk there.0 x
    (ap (λ o. append_refusal chunk o (Some x)) (sym there.2) ∙ (ap (append_refusal chunk (slice_get s.schemas f)) (sym at) ∙ free)) in
    (known.1, known.2)

pub changeable :
    (s : State) (f : ℕ) (c : FrameChange) (x : FrameState) → IsLegal s → refusal_of s (change_of f c) ≡ None →
    x ≡ get_or s.frames f x → IsChangeable s f c x
changeable s f (Append chunk) x h free lent =
    let there = append-there chunk.now (slice_get s.schemas f) (slice_get s.frames f) free in
    changeable-at s f (Append chunk) x h lent (slice_get_within s.frames f there.1 there.3) (takes-chunk s f chunk.now x free)
changeable s f (Prepared chunk) x h free lent =
    let there = append-there chunk.now (slice_get s.schemas f) (slice_get s.frames f) free in
    changeable-at s f (Prepared chunk) x h lent (slice_get_within s.frames f there.1 there.3) (takes-chunk s f chunk.now x free)
changeable s f (Delete ns) x h free lent =
    let there = delete-there ns.now (slice_get s.frames f) free in
    changeable-at s f (Delete ns) x h lent (slice_get_within s.frames f there.0 there.1) (λ at.
    takes-numbers x ns.now (ap (delete_refusal ns.now) (sym at) ∙ free))
changeable s f (Replace rows) x h free lent =
    let there = replace-there rows.now (slice_get s.schemas f) (slice_get s.frames f) free in
    changeable-at s f (Replace rows) x h lent (slice_get_within s.frames f there.1 there.3) (λ at.
    let known = replace-accepted rows.now there.0 x
    (ap (λ o. replace_refusal rows.now o (Some x)) (sym there.2) ∙ (ap (replace_refusal rows.now (slice_get s.schemas f)) (sym at) ∙ free)) in
    takes-numbers x (map (λ r. r.0) rows.now) known.1)

-- the same where the state and the frame have other names
pub free-of :
    (s t : State) (f g : ℕ) (c : FrameChange) → s ≡ t → f ≡ g → refusal_of t (change_of g c) ≡ None → refusal_of s (change_of f c) ≡ None
free-of s t f g c same place free =
    subst (λ u. refusal_of u (change_of f c) ≡ None) (sym same) (subst (λ i. refusal_of t (change_of i c) ≡ None) (sym place) free)

-- what is lent of a list's item is lent of what the list is mapped to
pub lent-map : {X Y : Type 0} (g : X → Y) (xs : List X) (i : ℕ) (x : X) → x ≡ get_or xs i x → g x ≡ get_or (map g xs) i (g x)
lent-map g [] i x e = refl
lent-map g (y ∷ ys) zero x e = ap g e
lent-map g (y ∷ ys) (suc i) x e = lent-map g ys i x e

-- the change of a catalogue that it is adds and takes out as many rows, and is sound where it is
pub accepted-of : (f : ℕ) (c : FrameChange) → of_frame.accepted_rows c ≡ accepted_rows (change_of f c)
accepted-of f (Append chunk) = refl
accepted-of f (Prepared chunk) = refl
accepted-of f (Delete ns) = refl
accepted-of f (Replace rows) = refl

pub deleted-of : (f : ℕ) (c : FrameChange) → of_frame.deleted_rows c ≡ deleted_rows (change_of f c)
deleted-of f (Append chunk) = refl
deleted-of f (Prepared chunk) = refl
deleted-of f (Delete ns) = refl
deleted-of f (Replace rows) = refl

pub sound-of : (f : ℕ) (c : FrameChange) → of_frame.IsSound c → IsSound (change_of f c)
sound-of f (Append chunk) h = h
sound-of f (Prepared chunk) h = h
sound-of f (Delete ns) h = h
sound-of f (Replace rows) h = h

-- what it makes of a state
pub after-frame :
    (s : State) (f : ℕ) (c : FrameChange) →
    let frames = change_at f (λ x. frame_after x c) s.frames in
    after s (change_of f c) ≡ record { schemas = s.schemas; frames = frames; views = refreshed_views frames s.views }
after-frame s f (Append chunk) = refl
after-frame s f (Prepared chunk) = refl
after-frame s f (Delete ns) = refl
after-frame s f (Replace rows) = refl

pub sound-after :
    (frames : List FrameParts) (f : ℕ) (change : FrameState → FrameState) (x : FrameParts) → AllZip IsFrame (schemas_of frames) (change_at f change (states_of frames)) →
    x ≡ get_or frames f x → f < length frames → IsFrame x.schema (change x.state)
sound-after [] f change x h lent within = absurd (omega (arith, within))
sound-after (y ∷ ys) zero change x h lent within = subst (λ z. IsFrame z.schema (change z.state)) (sym lent) h.0
sound-after (y ∷ ys) (suc f) change x h lent within = sound-after ys f change x h.1 lent (omega (arith, within))

-- new rows leave a desk as it is
pub replace-desk : (d : DeskParts) (f : ℕ) (rows : List (ℕ × List Cell)) → desk_after d (change.Replace f rows) ≡ d
replace-desk d f rows =
    let accepted : d.accepted + 0 ≡ d.accepted = omega arith in
    let deleted : d.deleted + 0 ≡ d.deleted = omega arith in
    rw (accepted, deleted) refl

kept : (desks : List DeskParts) (i f : ℕ) (rows : List (ℕ × List Cell)) → change_at i (λ d. desk_after d (change.Replace f rows)) desks ≡ desks
kept [] i f rows = refl
kept (d ∷ ds) zero f rows = ap (λ e. e ∷ ds) (replace-desk d f rows)
kept (d ∷ ds) (suc i) f rows = ap (λ es. d ∷ es) (kept ds i f rows)

-- the desks of all frames, of which that at the frame's index counts the rows
pub desks-counted :
    (desks : List DeskParts) (f : ℕ) (c : FrameChange) → desks_after desks (change_of f c) ≡ change_at f (λ d. desk_after d (change_of f c)) desks
desks-counted desks f (Append chunk) = refl
desks-counted desks f (Prepared chunk) = refl
desks-counted desks f (Delete ns) = refl
desks-counted desks f (Replace rows) = sym (kept desks f f rows.now)

pub desks-transition :
    {T : Type 0} (desks : List DeskParts) (f : ℕ) (none : DeskParts) (c : FrameChange) (r : Result T CatalogueFault) (new : DeskParts) →
    slice_get desks f ≡ Some (slice_index_or desks f none) → (slice_index_or desks f none).frame ≡ f →
    IsTransitionOfDesk (slice_index_or desks f none) (change_of (slice_index_or desks f none).frame c) r new →
    IsTransitionOfDesks desks (change_of f c) r (slice_set desks f new)
desks-transition desks f none c r new at is h =
    let d : DeskParts = slice_index_or desks f none in
    let here : IsTransitionOfDesk d (change_of f c) r new = subst (λ i. IsTransitionOfDesk d (change_of i c) r new) is h in record {
      counted =
          on_ok_weaker r
          (λ e. ap (slice_set desks f) e ∙ sym (desks-counted desks f c ∙ change-set (λ d. desk_after d (change_of f c)) desks f d at))
          here.counted;
      same = on_err_weaker r (λ e. ap (slice_set desks f) e ∙ set-get_or desks f none) here.same;
    }

-- how the books grow
pub record IsBooked (s : State) (f : ℕ) (c : FrameChange) : Type 0 where
  pub accepted : accepted_in (after s (change_of f c)) ≡ accepted_in s + accepted_rows (change_of f c)
  pub deleted : deleted_in (after s (change_of f c)) ≡ deleted_in s + deleted_rows (change_of f c)

pub booked : (s : State) (f : ℕ) (c : FrameChange) (x : FrameState) → IsChangeable s f c x → IsBooked s f c
booked s f c x h =
    let change : FrameState → FrameState = λ x. frame_after x c in record {
      accepted =
          ap accepted_in (after-frame s f c)
          ∙ sum-change (λ y. length y.accepted) (accepted_rows (change_of f c)) f change s.frames x h.at
          (frame-accepted c x ∙ ap (λ k. length x.accepted + k) (accepted-of f c));
      deleted =
          ap deleted_in (after-frame s f c)
          ∙ sum-change (λ y. length y.deleted) (deleted_rows (change_of f c)) f change s.frames x h.at
          (frame-deleted c x h.numbered h.takes ∙ ap (λ k. length x.deleted + k) (deleted-of f c));
    }

-- the schemas and states of the frames, of which one is changed and keeps its schema
pub schemas-set :
    (frames : List FrameParts) (f : ℕ) (x changed : FrameParts) → x ≡ get_or frames f x → changed.schema ≡ x.schema →
    schemas_of (slice_set frames f changed) ≡ schemas_of frames
schemas-set frames f x changed lent same =
    map-set (λ y. y.schema) frames f changed
    ∙ (ap (slice_set (schemas_of frames) f) (same ∙ lent-map (λ y. y.schema) frames f x lent) ∙ set-get_or (schemas_of frames) f x.schema)

pub states-set : (frames : List FrameParts) (f : ℕ) (changed : FrameParts) → states_of (slice_set frames f changed) ≡ slice_set (states_of frames) f changed.state
states-set frames f changed = map-set (λ y. y.state) frames f changed
