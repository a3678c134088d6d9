-- Desks that stand each at the index of its frame.
use Rattle.std.proofs.Common.{◌≡◌, ℕ, ◌+◌, ◌<◌, zero, suc, ◌∙◌, List, [], ◌∷◌, map, length, refl, ap, sym, arith}
use Rattle.std.specs.Prelude.{Some, slice_get, slice_index_or}
use Rattle.std.specs.List.{range_with_len}
use Rattle.std.proofs.lemmas.List.{length-map}
use Rattle.std.proofs.lemmas.List.FromFn.{length-range_with_len}
use Rattle.std.proofs.lemmas.Option.{slice_get-get_or}
use Rattle.std.proofs.lemmas.Slice.Zip.{AllZip-long}
use Rattle.df_state.specs.declared.state.State.{State}
use Rattle.df_state.specs.declared.change.Change.{Change}
use Rattle.df_state.specs.declared.change.Change.TheVariants.{Append, Delete, Replace, Register, DropView}
use Rattle.df_state.specs.Changes.{change_at}
use Rattle.df_state.specs.Desks.{DeskParts, desk_after, desks_after, first_desk, AreInOrder}
use Rattle.df_frame.specs.Frames.{IsFrame}
use Rattle.df_state.specs.States.{IsLegal}

-- of frames that count up from a number, the one at an index is so far on
pub frame-from :
    (from n i : ℕ) (desks : List DeskParts) (d : DeskParts) →
    map (λ d. d.frame) desks ≡ range_with_len from n → slice_get desks i ≡ Some d → d.frame ≡ from + i
frame-from from n i [] d h at = cc
frame-from from zero i (e ∷ desks) d h at = cc
frame-from from (suc n) zero (e ∷ desks) d h at =
    let same : e ≡ d = cc in
    let first : e.frame ≡ from = cc in
    let sum : from ≡ from + 0 = omega arith in
    ap (λ x. x.frame) (sym same) ∙ (first ∙ sum)
frame-from from (suc n) (suc i) (e ∷ desks) d h at =
    let rest : map (λ d. d.frame) desks ≡ range_with_len (from + 1) n = cc in
    let k = frame-from (from + 1) n i desks d rest at in
    omega (arith, k)

pub desks-long : (desks : List DeskParts) (s : State) → AreInOrder desks s → length desks ≡ length s.schemas
desks-long desks s h =
    sym (length-map desks (λ d. d.frame)) ∙ (ap length h ∙ length-range_with_len 0 (length s.schemas))

pub frames-long : (s : State) → IsLegal s → length s.frames ≡ length s.schemas
frames-long s h = AllZip-long IsFrame s.schemas s.frames h.frames

-- the frame of the desk at an index
pub desk-at : (desks : List DeskParts) (s : State) (i : ℕ) (d : DeskParts) → AreInOrder desks s → slice_get desks i ≡ Some d → d.frame ≡ i
desk-at desks s i d h at = let k = frame-from 0 (length s.schemas) i desks d h at in omega (arith, k)

change-frames :
    (change : DeskParts → DeskParts) → ((d : DeskParts) → (change d).frame ≡ d.frame) → (i : ℕ) (desks : List DeskParts) →
    map (λ d. d.frame) (change_at i change desks) ≡ map (λ d. d.frame) desks
change-frames change keeps i [] = refl
change-frames change keeps zero (d ∷ desks) = ap (λ f. f ∷ map (λ d. d.frame) desks) (keeps d)
change-frames change keeps (suc i) (d ∷ desks) = ap (λ fs. d.frame ∷ fs) (change-frames change keeps i desks)

-- a change keeps each desk at its index
pub frames-after : (desks : List DeskParts) (c : Change) → map (λ d. d.frame) (desks_after desks c) ≡ map (λ d. d.frame) desks
frames-after desks (Append f c) = change-frames (λ d. desk_after d (Append f c)) (λ d. refl) f desks
frames-after desks (Delete f ns) = change-frames (λ d. desk_after d (Delete f ns)) (λ d. refl) f desks
frames-after desks (Replace f rows) = refl
frames-after desks (Register name p) = refl
frames-after desks (DropView name) = refl

-- the desk at the index of a frame of the state is of that frame
pub desk-read :
    (desks : List DeskParts) (s : State) (i : ℕ) (d : DeskParts) → AreInOrder desks s → IsLegal s → i < length s.frames →
    (slice_get desks i ≡ Some (slice_index_or desks i d)) × ((slice_index_or desks i d).frame ≡ i)
desk-read desks s i d h legal within =
    let some = desks-long desks s h in
    let same = frames-long s legal in
    let at = slice_get-get_or desks i d (omega (arith, some, same, within)) in
    (at, desk-at desks s i (slice_index_or desks i d) h at)

-- first desks stand in order
pub first-in-order : (from n : ℕ) → map (λ d. d.frame) (map first_desk (range_with_len from n)) ≡ range_with_len from n
first-in-order from zero = refl
first-in-order from (suc n) = ap (λ ns. from ∷ ns) (first-in-order (from + 1) n)
