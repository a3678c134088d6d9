-- Sound frames, each under its schema.
use Rattle.std.proofs.Common.{◌≡◌, ℕ, ◌*◌, ◌≤◌, zero, suc, List, [], ◌∷◌, length, replicate, ap, subst, arith, sum_by}
use Rattle.std.specs.Prelude.{Some, slice_get}
use Rattle.std.specs.List.{AllZip}
use Rattle.std.proofs.lemmas.List.Sums.{sum_by-cons}
use Rattle.df_value.specs.declared.cell.CellType.{CellType}
use Rattle.df_frame.specs.declared.state.FrameState.{FrameState}
use Rattle.df_frame.specs.Frames.{empty_frame, IsFrame, IsNumbered}
use Rattle.df_frame.specs.Numbers.{has_number}
use Rattle.df_frame.proofs.FrameFacts.{empty-sound}
use Rattle.df_state.proofs.ViewFacts.{no-longer}

abbrev Columns : Type 0
Columns = List (List ℕ × CellType)

-- the frame of an index of sound frames is sound
pub numbered-at : (schemas : List Columns) (frames : List FrameState) (at : ℕ) (f : FrameState) → AllZip IsFrame schemas frames → slice_get frames at ≡ Some f → IsNumbered f
numbered-at [] [] at f h e = cc
numbered-at [] (x ∷ xs) at f h e = absurd h
numbered-at (s ∷ ss) [] at f h e = cc
numbered-at (s ∷ ss) (x ∷ xs) zero f h e = let same : x ≡ f = cc in subst IsNumbered same h.0.numbered
numbered-at (s ∷ ss) (x ∷ xs) (suc at) f h e = numbered-at ss xs at f h.1 e

pub empty-frames : (schemas : List Columns) → AllZip IsFrame schemas (replicate (length schemas) empty_frame)
empty-frames [] = tt
empty-frames (s ∷ ss) = (empty-sound s, empty-frames ss)

-- what sound frames have accepted together
pub accepted-few : (schemas : List Columns) (frames : List FrameState) → AllZip IsFrame schemas frames → sum_by (λ f. length f.accepted) frames ≤ 1048576 * length schemas
accepted-few [] [] h = omega arith
accepted-few [] (f ∷ fs) h = absurd h
accepted-few (s ∷ ss) [] h = absurd h
accepted-few (s ∷ ss) (f ∷ fs) h =
    let few = h.0.numbered.few in
    let rest = accepted-few ss fs h.1 in
    let now = sum_by-cons (λ f. length f.accepted) f fs in
    omega (arith, few, rest, now)

-- and deleted
pub deleted-few : (schemas : List Columns) (frames : List FrameState) → AllZip IsFrame schemas frames → sum_by (λ f. length f.deleted) frames ≤ sum_by (λ f. length f.accepted) frames
deleted-few [] [] h = omega arith
deleted-few [] (f ∷ fs) h = absurd h
deleted-few (s ∷ ss) [] h = absurd h
deleted-few (s ∷ ss) (f ∷ fs) h =
    let part = no-longer (λ n. has_number f.deleted n) f.accepted in
    let same = ap length h.0.numbered.deleted in
    let rest = deleted-few ss fs h.1 in
    let now = sum_by-cons (λ f. length f.deleted) f fs in
    let all = sum_by-cons (λ f. length f.accepted) f fs in
    omega (arith, part, same, rest, now, all)
