-- A load whose desks were joined to one for each frame before its workers began: what it answers is of the desks that were given.
use Rattle.std.proofs.Common.{◌≡◌, ℕ, ◌+◌, ◌==◌, ◌&&◌, ◌∙◌, List, [], ◌∷◌, length, refl, ap, sym, arith}
use Rattle.std.proofs.lemmas.List.Elements.{All-nil}
use Rattle.std.specs.Prelude.{IfErr, IfOk, MatchOption, Option, Result, Err, None, Ok, Some, if◌then◌else◌}
use Rattle.df_value.specs.declared.cell.CellType.{CellType}
use Rattle.df_value.specs.declared.chunk.Piece.{Piece}
use Rattle.df_plan.specs.CheckedParts.{CheckedParts}
use Rattle.df_frame.specs.declared.state.FrameState.{FrameState}
use Rattle.df_state.specs.declared.state.State.{State}
use Rattle.df_state.specs.Desks.{AgreeWithBooks, DeskParts, HaveAllParts, HaveSameSums, accepted_at, accepted_through, deleted_at, deleted_through, parts_of, parts_of_no_desk}
use Rattle.df_jobs.specs.declared.jobs.Outcome.{Outcome}
use Rattle.df_jobs.specs.Counted.{HaveDone, entered_at}
use Rattle.df_jobs.specs.Jobs.{IsOutcome}
use Rattle.df_jobs.proofs.CountFacts.{all-done, deleted-in-all}
use Rattle.df_store.specs.declared.fault.LoadCause.{LoadCause}
use Rattle.df_store.specs.Grown.{IsReachedByLoad}
use Rattle.df_store.specs.Loads.{AreShares, IsLeft, IsNotLeft, is_accounted, unaccounted_from}

module _ (desks joined : List DeskParts) (same : HaveSameSums desks joined) where
  accepted-same : (frame : ℕ) → accepted_at frame joined ≡ accepted_at frame desks
  accepted-same frame =
      let none : List (List (ℕ × Piece)) = [] in
      let handed : Result (List Outcome) ℕ = Ok [] in
      let done : HaveDone (λ (os : List Outcome). os) none desks joined handed =
      all-done (λ os. os) none desks joined joined joined [] [] handed same refl refl (record { same = λ at. refl }) refl (All-nil (IsOutcome none)) refl in
      let sums = done.accepted frame in
      let nothing : 0 ≡ entered_at frame done.outcomes = ap (entered_at frame) done.all in
      omega (arith, sums, nothing)

  deleted-same : (frame : ℕ) → deleted_at frame joined ≡ deleted_at frame desks
  deleted-same frame = deleted-in-all desks joined joined same refl frame

  parts-same : parts_of joined ≡ parts_of desks
  parts-same = same.same (λ d. d.parts) (λ d e h. refl)

  agree-same : (s : State) → AgreeWithBooks joined s → AgreeWithBooks desks s
  agree-same s books =
      let accepted : accepted_through joined ≡ accepted_through desks = same.same (λ d. d.accepted) (λ d e h. refl) in
      let deleted : deleted_through joined ≡ deleted_through desks = same.same (λ d. d.deleted) (λ d e h. refl) in
      let all : HaveAllParts desks s → HaveAllParts joined s = λ h. ap (λ n. n + parts_of_no_desk (length s.schemas)) parts-same ∙ h in record {
        most_accepted = let most = books.most_accepted in omega (arith, most, accepted);
        most_deleted = let most = books.most_deleted in omega (arith, most, deleted);
        all_accepted = λ h. sym accepted ∙ books.all_accepted (all h);
        all_deleted = λ h. sym deleted ∙ books.all_deleted (all h);
      }

  accounted-so : (os : List Outcome) (n : ℕ) (frames : List FrameState) → unaccounted_from joined os n frames ≡ unaccounted_from desks os n frames
  accounted-so os n [] = refl
  accounted-so os n (f ∷ fs) =
      let here : is_accounted joined os n f ≡ is_accounted desks os n f =
      ap (λ a. (a + entered_at n os == length f.accepted) && (deleted_at n joined == length f.deleted)) (accepted-same n)
      ∙ ap (λ d. (accepted_at n desks + entered_at n os == length f.accepted) && (d == length f.deleted)) (deleted-same n) in
      ap (λ b. if b then unaccounted_from joined os (n + 1) fs else Some n) here
      ∙ ap (λ m. if is_accounted desks os n f then m else Some n) (accounted-so os (n + 1) fs)

  shares-so : (jobs : List (ℕ × (ℕ × Piece))) (s : State) → AreShares joined jobs s → AreShares desks jobs s
  shares-so jobs s h = record {
    accepted = λ frame f at. let e = accepted-same frame in let k = h.accepted frame f at in omega (arith, e, k);
    deleted = λ frame f at. sym (deleted-same frame) ∙ h.deleted frame f at;
  }

  -- a load that was refused for it
  module _ (schemas : List (List (List ℕ × CellType))) (chunks : List (List (ℕ × Piece))) (views : List (List ℕ × CheckedParts)) where
    reached-so : (history : List State) (s : State) → IsReachedByLoad schemas chunks joined history s → IsReachedByLoad schemas chunks desks history s
    reached-so history s h = record {
      over = h.over;
      ends = h.ends;
      before = h.before;
      began = h.began;
      later = h.later;
      goes_on = h.goes_on;
      agreed = agree-same h.before h.agreed;
      grown = h.grown;
    }

    left-so :
        (cause : LoadCause) (history : List State) (s : State) → IsLeft schemas chunks views joined cause history s → IsLeft schemas chunks views desks cause history s
    left-so cause history s h = record {
      last = h.last;
      legal = h.legal;
      outcomes = h.outcomes;
      made = h.made;
      accounted = sym (accounted-so h.outcomes 0 s.frames) ∙ h.accounted;
      reached = reached-so history s h.reached;
      why = h.why;
    }

    not-left-so : (cause : LoadCause) (history : List State) → IsNotLeft schemas chunks views joined cause history → IsNotLeft schemas chunks views desks cause history
    not-left-so cause history h = record {
      outcomes = h.outcomes;
      made = h.made;
      gathered = h.gathered;
      parts = h.parts ∙ parts-same;
      accepted = λ frame. h.accepted frame ∙ ap (λ n. n + entered_at frame h.outcomes) (accepted-same frame);
      deleted = λ frame. h.deleted frame ∙ deleted-same frame;
      state = h.state;
      frame = h.frame;
      unsettled = h.unsettled;
      reached = reached-so history h.state h.reached;
      why = h.why;
    }

    answer-so :
        {L : Type 0} (state_of : L → State) (cause : LoadCause) (history : List State) (left : Option L) →
        MatchOption left (IsNotLeft schemas chunks views joined cause history) (λ l. IsLeft schemas chunks views joined cause history (state_of l)) →
        MatchOption left (IsNotLeft schemas chunks views desks cause history) (λ l. IsLeft schemas chunks views desks cause history (state_of l))
    answer-so state_of cause history (Some l) h = left-so cause history (state_of l) h
    answer-so state_of cause history None h = not-left-so cause history h

    -- the same of the answer
    pub gathered-left :
        {A F L : Type 0} (state_of : L → State) (cause_of : F → LoadCause) (told_of : F → List State) (left_of : F → Option L) (result : Result A F) →
        IfErr result (λ f. MatchOption (left_of f) (IsNotLeft schemas chunks views joined (cause_of f) (told_of f))
        (λ l. IsLeft schemas chunks views joined (cause_of f) (told_of f) (state_of l))) →
        IfErr result (λ f. MatchOption (left_of f) (IsNotLeft schemas chunks views desks (cause_of f) (told_of f))
        (λ l. IsLeft schemas chunks views desks (cause_of f) (told_of f) (state_of l)))
    gathered-left state_of cause_of told_of left_of (Ok a) h = tt
    gathered-left state_of cause_of told_of left_of (Err f) h = answer-so state_of (cause_of f) (told_of f) (left_of f) h

  pub gathered-shares :
      {L F : Type 0} (state_of : L → State) (jobs : List (ℕ × (ℕ × Piece))) (result : Result L F) → IfOk result (λ l. AreShares joined jobs (state_of l)) →
      IfOk result (λ l. AreShares desks jobs (state_of l))
  gathered-shares state_of jobs (Ok l) h = shares-so jobs (state_of l) h
  gathered-shares state_of jobs (Err f) h = tt
