-- Totals that are put in a frame at a time.
use Rattle.std.proofs.Common.{◌≡◌, ℕ, ◌+◌, ◌<◌, ◌≤◌, ◌∙◌, List, [], ◌∷◌, ◌++◌, map, length, take, ap, sym, arith}
use Rattle.std.specs.Prelude.{Some, slice_get}
use Rattle.df_frame.specs.declared.state.FrameState.{FrameState}
use Rattle.df_hall.specs.declared.totals.TotalsRoom.{TotalsRoom}
use Rattle.df_hall.specs.Rooms.{HasRoomFor, Holds}
use Rattle.df_state.proofs.ListFacts.{item-at, map-more, take-one-more}

pub less-room : (n m : ℕ) (room : TotalsRoom) → HasRoomFor n room → m ≤ n → HasRoomFor m room
less-room n m room h le = record {
  accepted = let a = h.accepted in omega (arith, a, le);
  deleted = let a = h.deleted in omega (arith, a, le);
  live = let a = h.live in omega (arith, a, le);
}

-- a list of sizes with that of one more frame
one-more :
    (size : FrameState → ℕ) (before after : List ℕ) (frames : List FrameState) (i : ℕ) (f : FrameState) → slice_get frames i ≡ Some f →
    before ≡ map size (take i frames) → after ≡ before ++ size f ∷ [] → after ≡ map size (take (i + 1) frames)
one-more size before after frames i f at was now =
    now
    ∙ (ap (λ ns. ns ++ size f ∷ []) was
    ∙ (sym (map-more size (take i frames) f)
    ∙ ap (map size) (sym (take-one-more frames i f at))))

pub holds-more :
    (before after : TotalsRoom) (frames : List FrameState) (i : ℕ) → i < length frames → Holds before (take i frames) →
    ((f : FrameState) → slice_get frames i ≡ Some f → after.accepted.items ≡ before.accepted.items ++ length f.accepted ∷ []) →
    ((f : FrameState) → slice_get frames i ≡ Some f → after.deleted.items ≡ before.deleted.items ++ length f.deleted ∷ []) →
    ((f : FrameState) → slice_get frames i ≡ Some f → after.live.items ≡ before.live.items ++ length f.rows ∷ []) →
    Holds after (take (i + 1) frames)
holds-more before after frames i h was accepted deleted live =
    let x = item-at frames i h in record {
      accepted = one-more (λ f. length f.accepted) before.accepted.items after.accepted.items frames i x.0 x.1 was.accepted (accepted x.0 x.1);
      deleted = one-more (λ f. length f.deleted) before.deleted.items after.deleted.items frames i x.0 x.1 was.deleted (deleted x.0 x.1);
      live = one-more (λ f. length f.rows) before.live.items after.live.items frames i x.0 x.1 was.live (live x.0 x.1);
    }
