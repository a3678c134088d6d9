-- Room for totals, which is there before the first change, so that a close takes no memory.
use Rattle.std.specs.Prelude.{◌≡◌, ℕ, ◌+◌, ◌≤◌, List, map, vec_len, vec_capacity, length}
use Rattle.df_frame.specs.declared.state.FrameState.{FrameState}
use Rattle.df_hall.specs.declared.totals.TotalsRoom.{TotalsRoom}

-- the totals of so many more frames go in without an allocation
pub record HasRoomFor (frames : ℕ) (room : TotalsRoom) : Type 0 where
  pub accepted : vec_len room.accepted + frames ≤ vec_capacity room.accepted
  pub deleted : vec_len room.deleted + frames ≤ vec_capacity room.deleted
  pub live : vec_len room.live + frames ≤ vec_capacity room.live

-- the totals of these frames are in
pub record Holds (room : TotalsRoom) (frames : List FrameState) : Type 0 where
  pub accepted : room.accepted.items ≡ map (λ f. length f.accepted) frames
  pub deleted : room.deleted.items ≡ map (λ f. length f.deleted) frames
  pub live : room.live.items ≡ map (λ f. length f.rows) frames
