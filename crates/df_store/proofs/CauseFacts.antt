-- The frame that the cause of a load is about is one of those that were loaded.
use Rattle.std.proofs.Common.{◌≡◌, ℕ, suc, ◌+◌, ◌<◌, ◌∙◌, Bool, true, false, List, [], ◌∷◌, length, ap, sym, subst, arith, inl, inr}
use Rattle.std.specs.Prelude.{◌⊎◌, MatchOption, Option, Some, None, if◌then◌else◌}
use Rattle.df_value.specs.declared.cell.CellType.{CellType}
use Rattle.df_value.specs.declared.chunk.Piece.{Piece}
use Rattle.df_plan.specs.CheckedParts.{CheckedParts}
use Rattle.df_frame.specs.declared.state.FrameState.{FrameState}
use Rattle.df_state.specs.declared.state.State.{State}
use Rattle.df_state.specs.Desks.{DeskParts}
use Rattle.df_state.specs.States.{IsLegal}
use Rattle.df_state.proofs.DeskFacts.{frames-long}
use Rattle.df_versions.specs.Histories.{IsLastState}
use Rattle.df_hall.specs.Closing.{is_settled, missing_from}
use Rattle.df_jobs.specs.declared.jobs.Outcome.{Outcome}
use Rattle.df_jobs.specs.declared.stop.Stop.{Stop}
use Rattle.df_jobs.specs.declared.stop.Stop.TheVariants as stop
use Rattle.df_jobs.specs.Jobs.{jobs_of}
use Rattle.df_store.specs.declared.fault.LoadCause.{LoadCause}
use Rattle.df_store.specs.declared.fault.LoadCause.TheVariants as load
use Rattle.df_store.specs.Faults.{IsCauseAtStart, IsOfFrames, cause_of_stop}
use Rattle.df_store.specs.Loads.{IsCauseLeft, IsCauseNotLeft, IsCauseUnsettled, IsDifference, IsLeft, IsNotLeft}
use Rattle.df_store.proofs.FreshFacts.{schemas-of-last}

first-or-later : (b : Bool) (later : Option ℕ) (n at more : ℕ) → (later ≡ Some at → at < (n + 1) + more) → (if b then later else Some n) ≡ Some at → at < n + suc more
first-or-later true later n at more rest e = let within = rest e in omega (arith, within)
first-or-later false later n at more rest e = let same : n ≡ at = cc in omega (arith, same)

-- a frame that is missing is there
missing-within : (desks : List DeskParts) (n : ℕ) (frames : List FrameState) (at : ℕ) → missing_from desks n frames ≡ Some at → at < n + length frames
missing-within desks n [] at e = absurd (cc)
missing-within desks n (f ∷ fs) at e =
    first-or-later (is_settled desks n f) (missing_from desks (n + 1) fs) n at (length fs) (missing-within desks (n + 1) fs at) e

start-of-frames : (count : ℕ) (s : State) (views : List (List ℕ × CheckedParts)) (cause : LoadCause) → IsCauseAtStart s views cause → IsOfFrames count cause
start-of-frames count s views (load.Refused f) is = tt
start-of-frames count s views load.Memory is = tt
start-of-frames count s views load.Spent is = tt
start-of-frames count s views load.Ahead is = tt
start-of-frames count s views (load.MissingDesk at) (inl view) = absurd view.4
start-of-frames count s views (load.MissingDesk at) (inr memory) = let e = memory.0 in absurd (cc)
start-of-frames count s views (load.Lost job) is = tt
start-of-frames count s views (load.Unlike at) (inl view) = absurd view.4
start-of-frames count s views (load.Unlike at) (inr memory) = let e = memory.0 in absurd (cc)
start-of-frames count s views load.ViewsUnlike is = tt

stop-of-frames : (count : ℕ) (s : Stop) → IsOfFrames count (cause_of_stop s)
stop-of-frames count stop.Memory = tt
stop-of-frames count stop.Spent = tt
stop-of-frames count stop.Ahead = tt

difference-of-frames :
    (jobs : List (ℕ × (ℕ × Piece))) (outcomes : List Outcome) (views : List (List ℕ × CheckedParts)) (s : State) (cause : LoadCause) →
    IsDifference jobs outcomes views s cause → IsOfFrames (length s.frames) cause
difference-of-frames jobs outcomes views s (load.Refused f) is = tt
difference-of-frames jobs outcomes views s load.Memory is = tt
difference-of-frames jobs outcomes views s load.Spent is = tt
difference-of-frames jobs outcomes views s load.Ahead is = tt
difference-of-frames jobs outcomes views s (load.MissingDesk at) is = absurd is
difference-of-frames jobs outcomes views s (load.Lost job) is = tt
difference-of-frames jobs outcomes views s (load.Unlike at) is = is.0.within
difference-of-frames jobs outcomes views s load.ViewsUnlike is = tt

end-of-frames :
    (jobs : List (ℕ × (ℕ × Piece))) (views : List (List ℕ × CheckedParts)) (outcomes : List Outcome) (s : State) (cause : LoadCause) →
    ((stop : Stop) × (cause ≡ cause_of_stop stop)) ⊎ IsDifference jobs outcomes views s cause → IsOfFrames (length s.frames) cause
end-of-frames jobs views outcomes s cause (inl stopped) = subst (IsOfFrames (length s.frames)) (sym stopped.1) (stop-of-frames (length s.frames) stopped.0)
end-of-frames jobs views outcomes s cause (inr difference) = difference-of-frames jobs outcomes views s cause difference

left-of-frames :
    (jobs : List (ℕ × (ℕ × Piece))) (views : List (List ℕ × CheckedParts)) (outcomes : List Outcome) (s : State) (cause : LoadCause) →
    IsCauseLeft jobs views outcomes s cause → IsOfFrames (length s.frames) cause
left-of-frames jobs views outcomes s cause (inl start) = start-of-frames (length s.frames) s views cause start.1
left-of-frames jobs views outcomes s cause (inr end) = end-of-frames jobs views outcomes s cause end.1

unsettled-of-frames : (count frame : ℕ) (cause : LoadCause) → frame < count → IsCauseUnsettled frame cause → IsOfFrames count cause
unsettled-of-frames count frame (load.Refused f) within is = tt
unsettled-of-frames count frame load.Memory within is = tt
unsettled-of-frames count frame load.Spent within is = tt
unsettled-of-frames count frame load.Ahead within is = tt
unsettled-of-frames count frame (load.MissingDesk at) within is = omega (arith, within, is)
unsettled-of-frames count frame (load.Lost job) within is = tt
unsettled-of-frames count frame (load.Unlike at) within is = absurd is
unsettled-of-frames count frame load.ViewsUnlike within is = tt

not-left-of-frames :
    (count : ℕ) (views : List (List ℕ × CheckedParts)) (outcomes : List Outcome) (s : State) (frame : ℕ) (cause : LoadCause) → frame < count →
    IsCauseNotLeft views outcomes s frame cause → IsOfFrames count cause
not-left-of-frames count views outcomes s frame cause within (inl start) = start-of-frames count s views cause start.1
not-left-of-frames count views outcomes s frame cause within (inr unsettled) = unsettled-of-frames count frame cause within unsettled.1

-- a state that a hall may have come to has a frame for each schema
frames-of-last : (schemas : List (List (List ℕ × CellType))) (s : State) → IsLastState schemas s → IsLegal s → length s.frames ≡ length schemas
frames-of-last schemas s last legal = frames-long s legal ∙ ap length (schemas-of-last schemas s last)

-- the frame that the cause of a load is about is one of those that were loaded
pub cause-of-frames :
    {L : Type 0} (state_of : L → State) (schemas : List (List (List ℕ × CellType))) (chunks : List (List (ℕ × Piece))) (views : List (List ℕ × CheckedParts)) (desks : List DeskParts)
    (cause : LoadCause) (told : List State) (left : Option L) →
    MatchOption left (IsNotLeft schemas chunks views desks cause told) (λ l. IsLeft schemas chunks views desks cause told (state_of l)) →
    IsOfFrames (length schemas) cause
cause-of-frames state_of schemas chunks views desks cause told (Some l) is =
    subst (λ (n : ℕ). IsOfFrames n cause) (frames-of-last schemas (state_of l) is.last is.legal) (left-of-frames (jobs_of chunks) views is.outcomes (state_of l) cause is.why)
cause-of-frames state_of schemas chunks views desks cause told None is =
    let long = frames-of-last schemas is.state is.unsettled.last is.unsettled.legal in
    let within = missing-within is.gathered 0 is.state.frames is.frame is.unsettled.missing in
    not-left-of-frames (length schemas) views is.outcomes is.state is.frame cause (omega (arith, within, long)) is.why
