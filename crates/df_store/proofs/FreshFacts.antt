-- What a load that was refused left of fresh frames: the rows of whole chunks alone.
use Rattle.std.proofs.Common.{◌≡◌, ℕ, zero, suc, ◌+◌, ◌*◌, ◌≤◌, ◌∙◌, List, [], ◌∷◌, ◌++◌, length, map, refl, ap, sym, subst, arith, not}
use Rattle.std.specs.Prelude.{Some, filter, slice_get, sum_by}
use Rattle.std.specs.List.{range_with_len}
use Rattle.std.specs.List.Sorted.{IsPermutation}
use Rattle.std.proofs.lemmas.List.{length-map}
use Rattle.std.proofs.lemmas.List.Sums.{sum_by-cons}
use Rattle.df_value.specs.declared.cell.Cell.{Cell}
use Rattle.df_value.specs.declared.cell.CellType.{CellType}
use Rattle.df_value.specs.declared.chunk.Piece.{Piece}
use Rattle.df_plan.specs.CheckedParts.{CheckedParts}
use Rattle.df_frame.specs.declared.state.FrameState.{FrameState}
use Rattle.df_frame.specs.Frames.{IsNumbered, numbers_of}
use Rattle.df_frame.specs.Numbers.{has_number}
use Rattle.df_state.specs.declared.change.Change.{Change}
use Rattle.df_state.specs.declared.change.Change.TheVariants as change
use Rattle.df_state.specs.declared.state.State.{State}
use Rattle.df_state.specs.Changes.{after}
use Rattle.df_state.specs.Desks.{AgreeWithBooks, DeskParts, HaveAllParts, accepted_through, first_desk, first_desks, parts_of}
use Rattle.df_state.proofs.ListFacts.{found, item-at}
use Rattle.df_state.proofs.SoundFrames.{numbered-at}
use Rattle.df_versions.specs.Histories.{IsHistoryOver, IsLastState, Steps, last_of, last_state}
use Rattle.df_versions.proofs.Histories.{ends-legal}
use Rattle.df_jobs.specs.declared.jobs.Outcome.{Outcome}
use Rattle.df_jobs.specs.Expected.{rows_at}
use Rattle.df_jobs.specs.Jobs.{AreOutcomes}
use Rattle.df_store.specs.declared.fault.LoadCause.{LoadCause}
use Rattle.df_store.specs.Loads.{IsLeft}

schemas-after : (s : State) (c : Change) → (after s c).schemas ≡ s.schemas
schemas-after s (change.Append f c) = refl
schemas-after s (change.Delete f ns) = refl
schemas-after s (change.Replace f rows) = refl
schemas-after s (change.Register name p) = refl
schemas-after s (change.DropView name) = refl

schemas-kept : (s : State) (later : List State) → Steps s later → (last_of s later).schemas ≡ s.schemas
schemas-kept s [] h = refl
schemas-kept s (t ∷ ts) h = schemas-kept t ts h.1 ∙ (ap (λ x. x.schemas) h.0.3 ∙ schemas-after s h.0.0)

last-schemas : (schemas : List (List (List ℕ × CellType))) (history : List State) (s : State) → IsHistoryOver schemas history → last_state history ≡ Some s → s.schemas ≡ schemas
last-schemas schemas [] s over e = absurd (cc)
last-schemas schemas (o ∷ later) s over e =
    let same : last_of o later ≡ s = cc in
    ap (λ (x : State). x.schemas) (sym same) ∙ (schemas-kept o later over.lawful.1 ∙ over.of_schemas)

-- a state that a hall over frames of these schemas may come to has these schemas
pub schemas-of-last : (schemas : List (List (List ℕ × CellType))) (s : State) → IsLastState schemas s → s.schemas ≡ schemas
schemas-of-last schemas s h = last-schemas schemas h.history s h.over h.last

nothing-through : (from n : ℕ) → accepted_through (map first_desk (range_with_len from n)) ≡ 0
nothing-through from zero = refl
nothing-through from (suc n) =
    let rest = nothing-through (from + 1) n in
    let now = sum_by-cons (λ (d : DeskParts). d.accepted) (first_desk from) (map first_desk (range_with_len (from + 1) n)) in
    omega (arith, rest, now)

parts-given : (from n : ℕ) → parts_of (map first_desk (range_with_len from n)) ≡ 65536 * n
parts-given from zero = refl
parts-given from (suc n) =
    let rest = parts-given (from + 1) n in
    let now = sum_by-cons (λ (d : DeskParts). d.parts) (first_desk from) (map first_desk (range_with_len (from + 1) n)) in
    omega (arith, rest, now)

-- the first desks of all frames have all parts
first-have-all : (n : ℕ) (s : State) → length s.schemas ≡ n → n ≤ 8 → HaveAllParts (first_desks n) s
first-have-all n s many few = let parts = parts-given 0 n in omega (arith, parts, many, few)

none-accepted : (frames : List FrameState) (k : ℕ) (f : FrameState) → sum_by (λ f. length f.accepted) frames ≡ 0 → slice_get frames k ≡ Some f → length f.accepted ≡ 0
none-accepted [] k f none at = absurd (cc)
none-accepted (g ∷ fs) zero f none at =
    let same : g ≡ f = cc in
    let now = sum_by-cons (λ (x : FrameState). length x.accepted) g fs in
    subst (λ (x : FrameState). length x.accepted ≡ 0) same (omega (arith, none, now))
none-accepted (g ∷ fs) (suc k) f none at =
    let now = sum_by-cons (λ (x : FrameState). length x.accepted) g fs in
    none-accepted fs k f (omega (arith, none, now)) at

empty-of : {X : Type 0} (xs : List X) → length xs ≡ 0 → xs ≡ []
empty-of [] h = refl
empty-of (x ∷ xs) h = absurd (omega (arith, h))

-- a frame that accepted nothing has no rows
no-rows : (f : FrameState) → IsNumbered f → length f.accepted ≡ 0 → f.rows ≡ []
no-rows f sound none =
    let numbers : numbers_of f ≡ [] = sound.left ∙ ap (filter (λ n. not (has_number f.deleted n))) (empty-of f.accepted none) in
    empty-of f.rows (sym (length-map f.rows _) ∙ ap length numbers)

-- a state with whose books the first desks agree has no rows
fresh-frame :
    (schemas : List (List (List ℕ × CellType))) (s : State) (k : ℕ) (f : FrameState) → IsLastState schemas s → AgreeWithBooks (first_desks (length schemas)) s →
    slice_get s.frames k ≡ Some f → f.rows ≡ []
fresh-frame schemas s k f last agreed at =
    let legal = ends-legal last.history s last.over.lawful last.last in
    let many = ap length (schemas-of-last schemas s last) in
    let all = first-have-all (length schemas) s many (omega (arith, many, legal.few_frames)) in
    let none = sym (agreed.all_accepted all) ∙ nothing-through 0 (length schemas) in
    no-rows f (numbered-at s.schemas s.frames k f legal.frames at) (none-accepted s.frames k f none at)

-- frames that have the rows of whole chunks of these sources, and no others
pub record HaveWholeChunks (chunks : List (List (ℕ × Piece))) (frames : List FrameState) : Type 0 where
  pub entered : List Outcome
  pub made : AreOutcomes chunks entered
  pub rows : (frame : ℕ) (f : FrameState) → slice_get frames frame ≡ Some f → IsPermutation (rows_at frame entered) f.rows

-- a load that was given the first desks of all frames, and was refused, leaves such frames
pub left-of-fresh :
    (schemas : List (List (List ℕ × CellType))) (chunks : List (List (ℕ × Piece))) (views : List (List ℕ × CheckedParts)) (cause : LoadCause) (history : List State) (s : State) →
    IsLeft schemas chunks views (first_desks (length schemas)) cause history s → HaveWholeChunks chunks s.frames
left-of-fresh schemas chunks views cause history s left = record {
  entered = left.reached.grown.entered;
  made = left.reached.grown.made;
  rows = λ frame g at.
      let within = (found s.frames frame g at).0 in
      let count = left.reached.grown.frames.count in
      let was = item-at left.reached.before.frames frame (omega (arith, within, count)) in
      let none = fresh-frame schemas left.reached.before frame was.0 left.reached.began left.reached.agreed was.1 in
      subst (λ (rs : List (ℕ × List Cell)). IsPermutation (rs ++ rows_at frame left.reached.grown.entered) g.rows) none
      (left.reached.grown.frames.rows frame was.0 g was.1 at);
}
