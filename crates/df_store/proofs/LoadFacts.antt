-- A load whose shares are the books: what its outcomes brought are the rows of its jobs.
use Rattle.std.proofs.Common.{◌≡◌, ℕ, zero, suc, ◌+◌, ◌==◌, ◌∙◌, Bool, true, false, List, [], ◌∷◌, map, length, refl, ap, sym, arith}
use Rattle.std.specs.Prelude.{IfOk, IsOkAnd, Option, Result, Err, None, Ok, Some, if◌then◌else◌, slice_get, unwrap_or}
use Rattle.std.specs.List.Sorted.{IsPermutation}
use Rattle.std.proofs.lemmas.Bool.{and_parts, eqb-true}
use Rattle.std.proofs.lemmas.List.Sorted.{sum_by-IsPermutation}
use Rattle.std.proofs.lemmas.List.Sums.{sum_by-cons}
use Rattle.df_frame.specs.declared.state.FrameState.{FrameState}
use Rattle.df_state.specs.declared.state.State.{State}
use Rattle.df_state.specs.Desks.{DeskParts, accepted_at, deleted_at}
use Rattle.df_value.specs.declared.chunk.Piece.{Piece}
use Rattle.df_hall.specs.Closing.{is_settled, missing_frame, missing_from}
use Rattle.df_jobs.specs.declared.jobs.Outcome.{Outcome}
use Rattle.df_jobs.specs.Jobs.{job_of}
use Rattle.df_store.specs.Loads.{AreShares, rows_of_jobs}
use Rattle.df_jobs.specs.Counted.{entered_at, rows_of}

sum-of-jobs : (frame : ℕ) (os : List Outcome) → rows_of_jobs frame (map job_of os) ≡ entered_at frame os
sum-of-jobs frame [] = refl
sum-of-jobs frame (o ∷ os) =
    let here = sum_by-cons (λ (x : Outcome). if x.frame == frame then rows_of x.made else 0) o os in
    let there = sum_by-cons (λ (j : ℕ × (ℕ × Piece)). if j.0 == frame then rows_of j.1.1 else 0) (job_of o) (map job_of os) in
    let rest = sum-of-jobs frame os in
    omega (arith, here, there, rest)

-- outcomes that in some order are the jobs brought the rows of the jobs
pub entered-jobs :
    (before os : List Outcome) (jobs : List (ℕ × (ℕ × Piece))) → IsPermutation before os → map job_of os ≡ jobs → (frame : ℕ) →
    entered_at frame before ≡ rows_of_jobs frame jobs
entered-jobs before os jobs same is frame =
    sym (sum_by-IsPermutation (λ (o : Outcome). if o.frame == frame then rows_of o.made else 0) before os same)
    ∙ (sym (sum-of-jobs frame os)
    ∙ ap (rows_of_jobs frame) is)

none-here : (b : Bool) (m : Option ℕ) (n : ℕ) → (if b then m else Some n) ≡ None → (b ≡ true) × (m ≡ None)
none-here true m n h = (refl, h)
none-here false m n h = absurd (cc)

-- where no frame is missing, each is settled
settled-from :
    (desks : List DeskParts) (n : ℕ) (frames : List FrameState) (k : ℕ) (f : FrameState) → missing_from desks n frames ≡ None → slice_get frames k ≡ Some f →
    is_settled desks (n + k) f ≡ true
settled-from desks n [] k f none at = absurd (cc)
settled-from desks n (g ∷ fs) zero f none at =
    let here = none-here (is_settled desks n g) (missing_from desks (n + 1) fs) n none in
    let is : g ≡ f = ap (λ o. unwrap_or o g) at in
    let e : n + zero ≡ n = omega arith in
    ap (λ m. is_settled desks m f) e ∙ (ap (is_settled desks n) (sym is) ∙ here.0)
settled-from desks n (g ∷ fs) (suc k) f none at =
    let here = none-here (is_settled desks n g) (missing_from desks (n + 1) fs) n none in
    let e : n + suc k ≡ (n + 1) + k = omega arith in
    ap (λ m. is_settled desks m f) e ∙ settled-from desks (n + 1) fs k f here.1 at

settled-at :
    (desks : List DeskParts) (s : State) (frame : ℕ) (f : FrameState) → missing_frame desks s ≡ None → slice_get s.frames frame ≡ Some f →
    (accepted_at frame desks ≡ length f.accepted) × (deleted_at frame desks ≡ length f.deleted)
settled-at desks s frame f none at =
    let e : frame ≡ 0 + frame = omega arith in
    let both = and_parts (accepted_at frame desks == length f.accepted) (deleted_at frame desks == length f.deleted)
    (ap (λ n. is_settled desks n f) e ∙ settled-from desks 0 s.frames frame f none at) in
    (eqb-true (accepted_at frame desks) (length f.accepted) both.0, eqb-true (deleted_at frame desks) (length f.deleted) both.1)

-- where the shares of the desks that come back are the books, those of the desks that were given and the rows of the jobs are
pub shares :
    (given back : List DeskParts) (jobs : List (ℕ × (ℕ × Piece))) (os : List Outcome) (s : State) → missing_frame back s ≡ None →
    ((frame : ℕ) → accepted_at frame back ≡ accepted_at frame given + entered_at frame os) →
    ((frame : ℕ) → deleted_at frame back ≡ deleted_at frame given) → ((frame : ℕ) → entered_at frame os ≡ rows_of_jobs frame jobs) →
    AreShares given jobs s
shares given back jobs os s none counted deleted entered = record {
  accepted = λ frame f at.
      let books = settled-at back s frame f none at in
      sym (ap (λ n. accepted_at frame given + n) (entered frame)) ∙ (sym (counted frame) ∙ books.0);
  deleted = λ frame f at.
      let books = settled-at back s frame f none at in
      sym (deleted frame) ∙ books.1;
}

-- the same of a load and what was entered: where the load is loaded, it was compared with its outcomes
pub shares-of-load :
    {L F V E : Type 0} (state_of : L → State) (items : V → List Outcome) (given back : List DeskParts) (jobs : List (ℕ × (ℕ × Piece)))
    (load : Result L F) (entered : Result V E) → IfOk load (λ l. missing_frame back (state_of l) ≡ None) →
    IfOk entered (λ os. (frame : ℕ) → accepted_at frame back ≡ accepted_at frame given + entered_at frame (items os)) →
    ((frame : ℕ) → deleted_at frame back ≡ deleted_at frame given) →
    IfOk load (λ _. IsOkAnd entered (λ os. (frame : ℕ) → entered_at frame (items os) ≡ rows_of_jobs frame jobs)) →
    IfOk load (λ l. AreShares given jobs (state_of l))
shares-of-load state_of items given back jobs (Ok l) (Ok os) settled counted deleted entered =
    shares given back jobs (items os) (state_of l) settled counted deleted entered
shares-of-load state_of items given back jobs (Ok l) (Err e) settled counted deleted entered = absurd entered
shares-of-load state_of items given back jobs (Err e) os settled counted deleted entered = tt
