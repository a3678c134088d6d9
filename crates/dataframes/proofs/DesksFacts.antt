-- The desks of a service, of which a change counts in one.
use Rattle.std.proofs.Common.{◌≡◌, ◌∙◌, ◌<◌, ◌≤◌, ℕ, List, ap, arith, length, map, refl, subst, sym}
use Rattle.std.specs.Prelude.{Result, Ok, Err, IfOk, OnErr, OnOk, slice_index_or, slice_set}
use Rattle.std.specs.List.{range_with_len}
use Rattle.std.proofs.lemmas.List.{length-map, set-get_or}
use Rattle.std.proofs.lemmas.List.FromFn.{length-range_with_len}
use Rattle.std.proofs.lemmas.Option.{slice_get-get_or}
use Rattle.df_state.specs.Changes.{change_at}
use Rattle.df_state.specs.Desks.{DeskParts, desk_after, desks_after, first_desk, first_desks}
use Rattle.df_state.specs.declared.change.Change.{Change}
use Rattle.df_frame.specs.declared.frame_change.FrameChange.{FrameChange}
use Rattle.df_frame.specs.declared.frame_change.FrameChange.TheVariants as Rows
use Rattle.df_state.specs.declared.view_change.ViewChange.{ViewChange}
use Rattle.df_state.specs.declared.view_change.ViewChange.TheVariants as Views
use Rattle.df_state.specs.FrameChanges.{change_of}
use Rattle.df_state.specs.ViewChanges.{change_of_views}
use Rattle.df_state.proofs.DeskFacts.{first-in-order, frame-from, frames-after}
use Rattle.df_state.proofs.StateFacts.{change-set}
use Rattle.dataframes.specs.Books.{HasNoFrame, InOrder}

pub frame-there : (desks : List DeskParts) (i : ℕ) (d : DeskParts) → InOrder desks → i < length desks → (slice_index_or desks i d).frame ≡ i
frame-there desks i d h lt =
    let k = frame-from 0 (length desks) i desks (slice_index_or desks i d) h (slice_get-get_or desks i d lt) in omega (arith, k)

-- the desks after the answer to a change
abbrev pub AreAfter : {X E : Type 0} → List DeskParts → Change → Result X E → List DeskParts → Type 0
AreAfter desks c (Ok x) new = new ≡ desks_after desks c
AreAfter desks c (Err e) new = new ≡ desks

pub counted :
    {X E : Type 0} (desks : List DeskParts) (f : ℕ) (none : DeskParts) (c : Change) (r : Result X E) (new : DeskParts) → f < length desks →
    desks_after desks c ≡ change_at f (λ d. desk_after d c) desks → OnOk r (new ≡ desk_after (slice_index_or desks f none) c) →
    OnErr r (new ≡ slice_index_or desks f none) → AreAfter desks c r (slice_set desks f new)
counted desks f none c (Ok x) new lt one share same =
    ap (slice_set desks f) share
    ∙ (sym (change-set (λ d. desk_after d c) desks f (slice_index_or desks f none) (slice_get-get_or desks f none lt)) ∙ sym one)
counted desks f none c (Err e) new lt one share same = ap (slice_set desks f) same ∙ set-get_or desks f none

same-frames : (desks new : List DeskParts) → map (λ d. d.frame) new ≡ map (λ d. d.frame) desks → InOrder desks → InOrder new
same-frames desks new e h =
    let long : length new ≡ length desks = sym (length-map new (λ d. d.frame)) ∙ (ap length e ∙ length-map desks (λ d. d.frame)) in
    e ∙ (h ∙ ap (range_with_len 0) (sym long))

pub ordered : {X E : Type 0} (desks new : List DeskParts) (c : Change) (r : Result X E) → AreAfter desks c r new → InOrder desks → InOrder new
ordered desks new c (Ok x) h o = same-frames desks new (ap (map (λ d. d.frame)) h ∙ frames-after desks c) o
ordered desks new c (Err e) h o = subst InOrder (sym h) o

-- a change of rows has no frame where none is at its index
pub no-frame : (count f : ℕ) (c : FrameChange) → count ≤ f → HasNoFrame count (change_of f c)
no-frame count f (Rows.Append chunk) le = le
no-frame count f (Rows.Prepared chunk) le = le
no-frame count f (Rows.Delete ns) le = le
no-frame count f (Rows.Replace rows) le = le

-- a change of views touches no desk
pub desks-kept : (desks : List DeskParts) (c : ViewChange) → desks_after desks (change_of_views c) ≡ desks
desks-kept desks (Views.Register name plan) = refl
desks-kept desks (Views.Drop name) = refl

-- first desks stand in order, one for each frame
pub first-ordered : (n : ℕ) → InOrder (first_desks n)
first-ordered n =
    first-in-order 0 n ∙ ap (range_with_len 0) (sym (length-map (range_with_len 0 n) first_desk ∙ length-range_with_len 0 n))

pub first-counted : (n : ℕ) → length (first_desks n) ≡ n
first-counted n = length-map (range_with_len 0 n) first_desk ∙ length-range_with_len 0 n

pub if-ok : {A E : Type 0} (r : Result A E) (P Q : A → Type 0) → IfOk r P → ((a : A) → P a → Q a) → IfOk r Q
if-ok (Ok a) P Q p f = f a p
if-ok (Err e) P Q p f = tt
