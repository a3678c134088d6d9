-- The books of all frames.
use Rattle.std.proofs.Common.{◌≡◌, ℕ, ◌+◌, ◌-◌, zero, suc, List, [], ◌∷◌, length, refl, ap, sym, subst, arith, sum_by}
use Rattle.std.specs.Prelude.{Option, Some, None, option_map, slice_get}
use Rattle.std.proofs.lemmas.List.Sums.{sum_by-cons}
use Rattle.df_frame.specs.declared.state.FrameState.{FrameState}
use Rattle.df_frame.specs.Frames.{IsNumbered}
use Rattle.df_frame.proofs.Counting.{live-left}
use Rattle.df_state.specs.declared.state.State.{State}
use Rattle.df_state.specs.Changes.{change_at}
use Rattle.df_state.specs.Reads.{accepted_of, deleted_of, live_of}
use Rattle.df_state.specs.States.{IsLegal}
use Rattle.df_state.proofs.SoundFrames.{numbered-at}

-- a sum over frames of which one changes by so much
pub sum-change :
    {T : Type 0} (size : T → ℕ) (more : ℕ) (i : ℕ) (change : T → T) (xs : List T) (x : T) → slice_get xs i ≡ Some x → size (change x) ≡ size x + more →
    sum_by size (change_at i change xs) ≡ sum_by size xs + more
sum-change size more i change [] x at e = cc
sum-change size more zero change (y ∷ ys) x at e =
    let same : y ≡ x = cc in
    let here : size (change y) ≡ size y + more = subst (λ z. size (change z) ≡ size z + more) (sym same) e in
    let before = sum_by-cons size y ys in
    let now = sum_by-cons size (change y) ys in
    omega (arith, here, before, now)
sum-change size more (suc i) change (y ∷ ys) x at e =
    let before = sum_by-cons size y ys in
    let now = sum_by-cons size y (change_at i change ys) in
    let rest = sum-change size more i change ys x at e in
    omega (arith, before, now, rest)

live-at :
    (p : Option FrameState) (a d : ℕ) → ((f : FrameState) → p ≡ Some f → IsNumbered f) → option_map (λ f. length f.accepted) p ≡ Some a → option_map (λ f. length f.deleted) p ≡ Some d →
    option_map (λ f. length f.rows) p ≡ Some (a - d)
live-at None a d sound x y = cc
live-at (Some f) a d sound x y =
    let left = live-left f (sound f refl) in
    let all : length f.accepted ≡ a = cc in
    let gone : length f.deleted ≡ d = cc in
    ap Some (omega (arith, left, all, gone))

-- and so of a frame of a legal state
pub live-books : (s : State) (f a d : ℕ) → IsLegal s → accepted_of s f ≡ Some a → deleted_of s f ≡ Some d → live_of s f ≡ Some (a - d)
live-books s f a d h x y = live-at (slice_get s.frames f) a d (λ g e. numbered-at s.schemas s.frames f g h.frames e) x y
