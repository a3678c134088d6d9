-- What the desks of workers count, and the outcomes that they brought.
use Rattle.std.proofs.Common.{◌≡◌, ℕ, suc, ◌+◌, ◌<◌, ◌==◌, ◌∙◌, Bool, true, false, List, [], ◌∷◌, ◌++◌, length, get_or, set, refl, ap, sym, arith}
use Rattle.std.specs.Prelude.{IfOk, Result, Err, if◌then◌else◌}
use Rattle.std.proofs.lemmas.List.Elements.{All-nil}
use Rattle.df_value.specs.declared.chunk.Piece.{Piece}
use Rattle.std.proofs.lemmas.List.Sums.{sum_by-append, sum_by-cons, sum_by-set}
use Rattle.df_state.specs.Desks.{AddsUp, DeskParts, HaveSameSums, accepted_at, deleted_at, having_accepted, parts_of}
use Rattle.df_jobs.specs.declared.jobs.Outcome.{Outcome}
use Rattle.df_jobs.specs.declared.worker.Worker.{Worker}
use Rattle.df_jobs.specs.Jobs.{AreOutcomes, IsOutcome}
use Rattle.df_jobs.specs.Counted.{AreCounted, HaveAccepted, HaveDone, all_without_accepted, entered_at, rows_of, without_accepted}
use Rattle.df_jobs.specs.Workers.{desks_of, outcomes_in}

pub nothing-new : (desks : List DeskParts) (done : List Outcome) → AreCounted desks done desks done
nothing-new desks done = record { same = λ frame. refl }

if-sum : (b : Bool) (m n : ℕ) → (if b then m + n else 0) ≡ (if b then m else 0) + (if b then n else 0)
if-sum true m n = refl
if-sum false m n = refl

-- so many rows of a frame were accepted through a desk of it
pub one-committed :
    (desks : List DeskParts) (at : ℕ) (d now : DeskParts) (frame rows : ℕ) → at < length desks → (get_or desks at d).frame ≡ frame →
    now ≡ having_accepted rows (get_or desks at d) → HaveAccepted frame rows desks (set desks at now)
one-committed desks at d now frame rows low of_frame is = record {
  same = λ f.
      let h : DeskParts → ℕ = λ x. if x.frame == f then x.accepted else 0 in
      let was = get_or desks at d in
      let moved = sum_by-set h desks at now d low in
      let more : h now ≡ h was + (if frame == f then rows else 0) =
      ap h is ∙ (if-sum (was.frame == f) was.accepted rows ∙ ap (λ n. h was + (if n == f then rows else 0)) of_frame) in
      omega (arith, moved, more);
}

both :
    (a b c d : List DeskParts) (x y z w : List Outcome) → AreCounted a x b y → AreCounted c z d w → AreCounted (a ++ c) (x ++ z) (b ++ d) (y ++ w)
both a b c d x y z w p q = record {
  same = λ frame.
      let h : DeskParts → ℕ = λ e. if e.frame == frame then e.accepted else 0 in
      let k : Outcome → ℕ = λ o. if o.frame == frame then rows_of o.made else 0 in
      let first = p.same frame in
      let next = q.same frame in
      let e1 = sum_by-append h a c in
      let e2 = sum_by-append h b d in
      let e3 = sum_by-append k x z in
      let e4 = sum_by-append k y w in
      omega (arith, first, next, e1, e2, e3, e4);
}

-- each worker counted what it did, so all of them did
pub all-counted :
    {A D : Type 0} (was now : List (Worker A D)) → length now ≡ length was →
    ((i : ℕ) (d : Worker A D) → i < length was →
    AreCounted (get_or was i d).desks.items (get_or was i d).done.items (get_or now i d).desks.items (get_or now i d).done.items) →
    AreCounted (desks_of was) (outcomes_in was) (desks_of now) (outcomes_in now)
all-counted [] [] len each = nothing-new [] []
all-counted [] (w ∷ now) len each = absurd (omega (arith, len))
all-counted (v ∷ was) [] len each = absurd (omega (arith, len))
all-counted (v ∷ was) (w ∷ now) len each =
    both v.desks.items w.desks.items (desks_of was) (desks_of now) v.done.items w.done.items (outcomes_in was) (outcomes_in now) (each 0 w (omega arith))
    (all-counted was now (omega (arith, len)) (λ i d h. each (suc i) d (omega (arith, h))))

parts-left : (desks : List DeskParts) → parts_of (all_without_accepted desks) ≡ parts_of desks
parts-left [] = refl
parts-left (d ∷ desks) =
    let here = sum_by-cons (λ (x : DeskParts). x.parts) d desks in
    let there = sum_by-cons (λ (x : DeskParts). x.parts) (without_accepted d) (all_without_accepted desks) in
    let rest = parts-left desks in
    omega (arith, here, there, rest)

-- no part of the desks is lost from those that were given to those that come back
pub parts-in-all :
    (given split after : List DeskParts) → HaveSameSums given split → all_without_accepted after ≡ all_without_accepted split → parts_of after ≡ parts_of given
parts-in-all given split after same left =
    sym (parts-left after) ∙ (ap parts_of left ∙ (parts-left split ∙ same.same (λ d. d.parts) (λ d e h. refl)))

deleted-left : (frame : ℕ) (desks : List DeskParts) → deleted_at frame (all_without_accepted desks) ≡ deleted_at frame desks
deleted-left frame [] = refl
deleted-left frame (d ∷ desks) =
    let h : DeskParts → ℕ = λ x. if x.frame == frame then x.deleted else 0 in
    let here = sum_by-cons h d desks in
    let there = sum_by-cons h (without_accepted d) (all_without_accepted desks) in
    let rest = deleted-left frame desks in
    omega (arith, here, there, rest)

deleted-adds-up : (frame : ℕ) → AddsUp (λ d. if d.frame == frame then d.deleted else 0)
deleted-adds-up frame d e same =
    if-sum (d.frame == frame) d.deleted e.deleted
    ∙ ap (λ n. (if d.frame == frame then d.deleted else 0) + (if n == frame then e.deleted else 0)) same

-- as many rows were deleted through the desks that come back as through those that were given
pub deleted-in-all :
    (given split after : List DeskParts) → HaveSameSums given split → all_without_accepted after ≡ all_without_accepted split → (frame : ℕ) →
    deleted_at frame after ≡ deleted_at frame given
deleted-in-all given split after same left frame =
    sym (deleted-left frame after)
    ∙ (ap (deleted_at frame) left
    ∙ (deleted-left frame split
    ∙ same.same (λ d. if d.frame == frame then d.deleted else 0) (deleted-adds-up frame)))

accepted-adds-up : (frame : ℕ) → AddsUp (λ d. if d.frame == frame then d.accepted else 0)
accepted-adds-up frame d e same =
    if-sum (d.frame == frame) d.accepted e.accepted
    ∙ ap (λ n. (if d.frame == frame then d.accepted else 0) + (if n == frame then e.accepted else 0)) same

-- what the workers did among whom the desks were split
pub all-done :
    {V E : Type 0} (items : V → List Outcome) (chunks : List (List (ℕ × Piece))) (given split after back : List DeskParts) (none os : List Outcome) (handed : Result V E) →
    HaveSameSums given split → none ≡ [] → all_without_accepted after ≡ all_without_accepted split → AreCounted split none after os → back ≡ after → AreOutcomes chunks os →
    IfOk handed (λ v. items v ≡ os) → HaveDone items chunks given back handed
all-done items chunks given split after back none os handed same empty left counted is made all = record {
  outcomes = os;
  made = made;
  accepted = λ frame.
      let h : DeskParts → ℕ = λ d. if d.frame == frame then d.accepted else 0 in
      let begun = same.same h (accepted-adds-up frame) in
      let nothing : entered_at frame none ≡ 0 = ap (entered_at frame) empty in
      let more = counted.same frame in
      let back' = ap (accepted_at frame) is in
      omega (arith, begun, nothing, more, back');
  deleted = λ frame. ap (deleted_at frame) is ∙ deleted-in-all given split after same left frame;
  all = all;
}

-- and where there are no workers
pub nothing-done :
    {V E : Type 0} (items : V → List Outcome) (chunks : List (List (ℕ × Piece))) (given back : List DeskParts) (e : E) → back ≡ given → HaveDone items chunks given back (Err e)
nothing-done items chunks given back e is = record {
  outcomes = [];
  made = All-nil (IsOutcome chunks);
  accepted = λ frame. let back' = ap (accepted_at frame) is in let none : entered_at frame [] ≡ 0 = refl in omega (arith, back', none);
  deleted = λ frame. ap (deleted_at frame) is;
  all = tt;
}
