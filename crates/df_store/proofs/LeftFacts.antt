-- What a load that was refused leaves.
use Rattle.std.proofs.Common.{◌≡◌, ℕ, ◌+◌, ◌<◌, ◌==◌, ◌&&◌, ◌∙◌, List, [], ◌∷◌, length, refl, ap, sym, subst, arith, inl, inr}
use Rattle.std.proofs.lemmas.List.{append-nil}
use Rattle.std.proofs.lemmas.List.Elements.{All-nil}
use Rattle.std.specs.Prelude.{IfErr, IfNone, IfOk, IfSome, IsErrAnd, MatchOption, Option, Result, Err, None, Ok, Some, if◌then◌else◌}
use Rattle.core.specs.Result.{result_ok}
use Rattle.df_value.specs.declared.cell.CellType.{CellType}
use Rattle.df_value.specs.declared.chunk.Piece.{Piece}
use Rattle.df_plan.specs.CheckedParts.{CheckedParts}
use Rattle.df_frame.specs.declared.state.FrameState.{FrameState}
use Rattle.df_state.specs.declared.state.State.{State}
use Rattle.df_state.specs.Desks.{AgreeWithBooks, DeskParts, accepted_at, deleted_at, parts_of}
use Rattle.df_state.specs.States.{IsLegal}
use Rattle.df_versions.specs.Histories.{IsHistoryOver, IsLastState, last_of, last_state}
use Rattle.df_hall.specs.Closing.{IsSettledState, IsUnsettledState, is_settled, missing_frame, missing_from}
use Rattle.df_store.specs.declared.fault.LoadCause.{LoadCause}
use Rattle.df_jobs.specs.declared.stop.Stop.{Stop}
use Rattle.df_jobs.specs.declared.jobs.Outcome.{Outcome}
use Rattle.df_store.specs.Faults.{IsCauseAtStart}
use Rattle.df_store.specs.Grown.{HaveGrown, IsReachedByLoad}
use Rattle.df_store.specs.Headings.{HasLastViews, HaveLastViews}
use Rattle.df_store.proofs.GrownFacts.{grown-none}
use Rattle.df_jobs.specs.Jobs.{AreOutcomes, IsOutcome, jobs_of}
use Rattle.df_store.specs.Loads.{IsCauseAtEnd, IsCauseLeft, IsCauseNotLeft, IsCauseUnsettled, IsDifference, IsLeft, IsNotLeft, is_accounted, unaccounted_from}
use Rattle.df_jobs.specs.Counted.{HaveDone, entered_at}

-- where the desks that come back have the rows of outcomes beside those of the desks that were given, the least frame where
-- their shares are not the books is the least one that is not accounted for
accounted-same :
    (desks back : List DeskParts) (os : List Outcome) → ((frame : ℕ) → accepted_at frame back ≡ accepted_at frame desks + entered_at frame os) →
    ((frame : ℕ) → deleted_at frame back ≡ deleted_at frame desks) → (n : ℕ) (frames : List FrameState) →
    missing_from back n frames ≡ unaccounted_from desks os n frames
accounted-same desks back os accepted deleted n [] = refl
accounted-same desks back os accepted deleted n (f ∷ fs) =
    let here : is_settled back n f ≡ is_accounted desks os n f =
    ap (λ a. (a == length f.accepted) && (deleted_at n back == length f.deleted)) (accepted n)
    ∙ ap (λ d. (accepted_at n desks + entered_at n os == length f.accepted) && (d == length f.deleted)) (deleted n) in
    ap (λ b. if b then missing_from back (n + 1) fs else Some n) here
    ∙ ap (λ m. if is_accounted desks os n f then m else Some n) (accounted-same desks back os accepted deleted (n + 1) fs)

-- a history that has begun ends with a state
last-of-begun : (history : List State) → 0 < length history → (s : State) × (last_state history ≡ Some s)
last-of-begun [] begun = absurd (omega (arith, begun))
last-of-begun (o ∷ later) begun = (last_of o later, refl)

module _ (schemas : List (List (List ℕ × CellType))) (chunks : List (List (ℕ × Piece))) (views : List (List ℕ × CheckedParts)) (desks : List DeskParts) where
  -- a load whose workers began with a history with whose books the desks agree reaches the last state of the history that grew from it
  reached-last :
      (history last : List State) (s : State) → ((s : State) → last_state history ≡ Some s → AgreeWithBooks desks s) → IsHistoryOver schemas history →
      IsHistoryOver schemas last → HaveGrown chunks history last → last_state last ≡ Some s → IsReachedByLoad schemas chunks desks last s
  reached-last history last s agreed over lawful grown ends =
      let before = last-of-begun history over.begun in record {
        over = lawful;
        ends = ends;
        before = before.0;
        began = record { history = history; over = over; last = before.1 };
        later = grown.later;
        goes_on = grown.goes_on;
        agreed = agreed before.0 before.1;
        grown = grown.states before.0 s before.1 ends;
      }

  -- the views that were registered before stand last in it
  registered-last :
      (history last : List State) (s : State) → IsHistoryOver schemas history → HaveLastViews views history → HaveGrown chunks history last →
      last_state last ≡ Some s → HasLastViews views s
  registered-last history last s over registered grown ends =
      let before = last-of-begun history over.begun in
      let h = registered before.0 before.1 in record { others = h.others; are = (grown.states before.0 s before.1 ends).views ∙ h.are }

  -- one that has not begun
  reached-none :
      (history : List State) (s : State) → IsHistoryOver schemas history → last_state history ≡ Some s → AgreeWithBooks desks s →
      IsReachedByLoad schemas chunks desks history s
  reached-none history s over ends agreed = record {
    over = over;
    ends = ends;
    before = s;
    began = record { history = history; over = over; last = ends };
    later = [];
    goes_on = sym (append-nil history);
    agreed = agreed;
    grown = grown-none chunks s;
  }

  left-of :
      (back : List DeskParts) (os : List Outcome) (cause : LoadCause) (history : List State) (s : State) → AreOutcomes chunks os →
      ((frame : ℕ) → accepted_at frame back ≡ accepted_at frame desks + entered_at frame os) → ((frame : ℕ) → deleted_at frame back ≡ deleted_at frame desks) →
      IsSettledState schemas back s → IsReachedByLoad schemas chunks desks history s → IsCauseLeft (jobs_of chunks) views os s cause →
      IsLeft schemas chunks views desks cause history s
  left-of back os cause history s made accepted deleted settled reached is = record {
    last = settled.last;
    legal = settled.legal;
    outcomes = os;
    made = made;
    accounted = sym (accounted-same desks back os accepted deleted 0 s.frames) ∙ settled.settled;
    reached = reached;
    why = is;
  }

  not-left-of :
      (back : List DeskParts) (os : List Outcome) (cause : LoadCause) (history : List State) (s : State) (frame : ℕ) → AreOutcomes chunks os → parts_of back ≡ parts_of desks →
      ((frame : ℕ) → accepted_at frame back ≡ accepted_at frame desks + entered_at frame os) → ((frame : ℕ) → deleted_at frame back ≡ deleted_at frame desks) →
      IsUnsettledState schemas back s frame → IsReachedByLoad schemas chunks desks history s → IsCauseNotLeft views os s frame cause →
      IsNotLeft schemas chunks views desks cause history
  not-left-of back os cause history s frame made parts accepted deleted unsettled reached is = record {
    outcomes = os;
    made = made;
    gathered = back;
    parts = parts;
    accepted = accepted;
    deleted = deleted;
    state = s;
    frame = frame;
    unsettled = unsettled;
    reached = reached;
    why = is;
  }

  no-outcomes : AreOutcomes chunks []
  no-outcomes = All-nil (IsOutcome chunks)

  nothing-entered : (frame : ℕ) → accepted_at frame desks ≡ accepted_at frame desks + entered_at frame []
  nothing-entered frame = let none : entered_at frame [] ≡ 0 = refl in omega (arith, none)

  given-up-so :
      {L : Type 0} (state_of : L → State) (history : List State) (cause : LoadCause) (left : Option L) → IsHistoryOver schemas history →
      ((s : State) → last_state history ≡ Some s → IsCauseAtStart s views cause) →
      IfSome left (λ l. (last_state history ≡ Some (state_of l)) × AgreeWithBooks desks (state_of l) × IsSettledState schemas desks (state_of l)) →
      IfNone left ((s : State) × (frame : ℕ) × (last_state history ≡ Some s) × IsUnsettledState schemas desks s frame) →
      MatchOption left (IsNotLeft schemas chunks views desks cause history) (λ l. IsLeft schemas chunks views desks cause history (state_of l))
  given-up-so state_of history cause (Some l) over is settled unsettled =
      left-of desks [] cause history (state_of l) no-outcomes nothing-entered (λ frame. refl) settled.2
      (reached-none history (state_of l) over settled.0 settled.1) (inl (refl, is (state_of l) settled.0))
  given-up-so state_of history cause None over is settled unsettled =
      not-left-of desks [] cause history unsettled.0 unsettled.1 no-outcomes refl nothing-entered (λ frame. refl) unsettled.3
      (reached-none history unsettled.0 over unsettled.2 unsettled.3.books) (inl (refl, is unsettled.0 unsettled.2))

  -- a load that was given up before its first job
  pub given-up :
      {L : Type 0} (state_of : L → State) (history told : List State) (cause : LoadCause) (left : Option L) → IsHistoryOver schemas history →
      told ≡ history → ((s : State) → last_state history ≡ Some s → IsCauseAtStart s views cause) →
      IfSome left (λ l. (last_state history ≡ Some (state_of l)) × AgreeWithBooks desks (state_of l) × IsSettledState schemas desks (state_of l)) →
      IfNone left ((s : State) × (frame : ℕ) × (last_state history ≡ Some s) × IsUnsettledState schemas desks s frame) →
      MatchOption left (IsNotLeft schemas chunks views desks cause told) (λ l. IsLeft schemas chunks views desks cause told (state_of l))
  given-up state_of history told cause left over same is settled unsettled =
      subst (λ (h : List State). MatchOption left (IsNotLeft schemas chunks views desks cause h) (λ l. IsLeft schemas chunks views desks cause h (state_of l)))
      (sym same) (given-up-so state_of history cause left over is settled unsettled)

  cause-left :
      {V : Type 0} (items : V → List Outcome) (s : State) (entered : Result V Stop) (cause : LoadCause) (os : List Outcome) →
      IfOk entered (λ v. items v ≡ os) → HasLastViews views s → IsCauseAtEnd items (jobs_of chunks) views s entered cause →
      IsCauseLeft (jobs_of chunks) views os s cause
  cause-left items s (Ok v) cause os is registered h = inr (registered, inr (subst (λ (o : List Outcome). IsDifference (jobs_of chunks) o views s cause) is h))
  cause-left items s (Err stop) cause os is registered h = inr (registered, inl (stop, h))

  -- what a load that came to its end left
  ended :
      {L V : Type 0} (state_of : L → State) (items : V → List Outcome) (back : List DeskParts) (entered : Result V Stop) (cause : LoadCause)
      (last : List State) (left : Option L) → parts_of back ≡ parts_of desks → HaveDone items chunks desks back entered →
      ((s : State) → last_state last ≡ Some s → IsReachedByLoad schemas chunks desks last s) → HaveLastViews views last →
      IfSome left (λ l. (last_state last ≡ Some (state_of l)) × IsSettledState schemas back (state_of l)) →
      IfSome left (λ l. IsCauseAtEnd items (jobs_of chunks) views (state_of l) entered cause) →
      IfNone left ((s : State) × (frame : ℕ) × (last_state last ≡ Some s) × IsUnsettledState schemas back s frame × IsCauseUnsettled frame cause) →
      MatchOption left (IsNotLeft schemas chunks views desks cause last) (λ l. IsLeft schemas chunks views desks cause last (state_of l))
  ended state_of items back entered cause last (Some l) parts done reached registered settled is unsettled =
      left-of back done.outcomes cause last (state_of l) done.made done.accepted done.deleted settled.1 (reached (state_of l) settled.0)
      (cause-left items (state_of l) entered cause done.outcomes done.all (registered (state_of l) settled.0) is)
  ended state_of items back entered cause last None parts done reached registered settled is unsettled =
      not-left-of back done.outcomes cause last unsettled.0 unsettled.1 done.made parts done.accepted done.deleted unsettled.3
      (reached unsettled.0 unsettled.2) (inr (registered unsettled.0 unsettled.2, unsettled.4))

  -- the same of its answer
  pub ended-so :
      {A F L V : Type 0} (state_of : L → State) (items : V → List Outcome) (cause_of : F → LoadCause) (told_of : F → List State) (left_of : F → Option L)
      (back : List DeskParts) (entered : Result V Stop) (result : Result A F) (history last : List State) → parts_of back ≡ parts_of desks → HaveDone items chunks desks back entered →
      ((s : State) → last_state history ≡ Some s → AgreeWithBooks desks s) → IsHistoryOver schemas history →
      HaveLastViews views history → IsHistoryOver schemas last → HaveGrown chunks history last →
      IfErr result (λ f. IfSome (left_of f) (λ l. (last_state last ≡ Some (state_of l)) × IsSettledState schemas back (state_of l))) →
      IfErr result (λ f. IfSome (left_of f) (λ l. IsCauseAtEnd items (jobs_of chunks) views (state_of l) entered (cause_of f))) →
      IfErr result (λ f. IfNone (left_of f) ((s : State) × (frame : ℕ) × (last_state last ≡ Some s) × IsUnsettledState schemas back s frame × IsCauseUnsettled frame (cause_of f))) →
      IfErr result (λ f. told_of f ≡ last) →
      IfErr result (λ f. MatchOption (left_of f) (IsNotLeft schemas chunks views desks (cause_of f) (told_of f))
      (λ l. IsLeft schemas chunks views desks (cause_of f) (told_of f) (state_of l)))
  ended-so state_of items cause_of told_of left_of back entered (Ok a) history last parts done agreed over registered lawful grown settled is unsettled same = tt
  ended-so state_of items cause_of told_of left_of back entered (Err f) history last parts done agreed over registered lawful grown settled is unsettled same =
      subst (λ (h : List State). MatchOption (left_of f) (IsNotLeft schemas chunks views desks (cause_of f) h)
      (λ l. IsLeft schemas chunks views desks (cause_of f) h (state_of l))) (sym same)
      (ended state_of items back entered (cause_of f) last (left_of f) parts done (λ s ends. reached-last history last s agreed over lawful grown ends)
      (λ s ends. registered-last history last s over registered grown ends) settled is unsettled)

settled-one :
    {C : Type 0} (state_of : C → State) (schemas : List (List (List ℕ × CellType))) (desks : List DeskParts) (catalogue c : C) → c ≡ catalogue →
    missing_frame desks (state_of catalogue) ≡ None → IsLegal (state_of catalogue) → IsLastState schemas (state_of catalogue) → IsSettledState schemas desks (state_of c)
settled-one state_of schemas desks catalogue c same none legal last =
    subst (λ x. IsSettledState schemas desks (state_of x)) (sym same) (record { last = last; legal = legal; settled = none })

-- a hall that was given up with the state of this catalogue, where the desks were settled
pub given-left :
    {C T U : Type 0} (state_of : C → State) (schemas : List (List (List ℕ × CellType))) (desks : List DeskParts) (history : List State) (catalogue : C)
    (r : Result (C × T) U) (left : Option (C × T)) → left ≡ result_ok r → last_state history ≡ Some (state_of catalogue) →
    IfOk r (λ _. missing_frame desks (state_of catalogue) ≡ None) → IfOk r (λ x. x.0 ≡ catalogue) → IsLegal (state_of catalogue) →
    IsLastState schemas (state_of catalogue) → AgreeWithBooks desks (state_of catalogue) →
    IfSome left (λ l. (last_state history ≡ Some (state_of l.0)) × AgreeWithBooks desks (state_of l.0) × IsSettledState schemas desks (state_of l.0))
given-left state_of schemas desks history catalogue (Ok l) left is ends none same legal last books =
    subst (λ o. IfSome o (λ l. (last_state history ≡ Some (state_of l.0)) × AgreeWithBooks desks (state_of l.0) × IsSettledState schemas desks (state_of l.0))) (sym is) (
      ends ∙ ap (λ c. Some (state_of c)) (sym same),
      subst (λ c. AgreeWithBooks desks (state_of c)) (sym same) books,
      settled-one state_of schemas desks catalogue l.0 same none legal last,
    )
given-left state_of schemas desks history catalogue (Err u) left is ends none same legal last books =
    subst (λ o. IfSome o (λ l. (last_state history ≡ Some (state_of l.0)) × AgreeWithBooks desks (state_of l.0) × IsSettledState schemas desks (state_of l.0))) (sym is) tt

-- and where they were not
pub given-not-left :
    {C T U : Type 0} (state_of : C → State) (frame_of : U → ℕ) (schemas : List (List (List ℕ × CellType))) (desks : List DeskParts) (history : List State)
    (catalogue : C) (r : Result (C × T) U) (left : Option (C × T)) → left ≡ result_ok r → last_state history ≡ Some (state_of catalogue) →
    IfErr r (λ u. missing_frame desks (state_of catalogue) ≡ Some (frame_of u)) → AgreeWithBooks desks (state_of catalogue) → IsLegal (state_of catalogue) →
    IsLastState schemas (state_of catalogue) →
    IfNone left ((s : State) × (frame : ℕ) × (last_state history ≡ Some s) × IsUnsettledState schemas desks s frame)
given-not-left state_of frame_of schemas desks history catalogue (Ok l) left is ends missing books legal last =
    subst (λ o. IfNone o ((s : State) × (frame : ℕ) × (last_state history ≡ Some s) × IsUnsettledState schemas desks s frame)) (sym is) tt
given-not-left state_of frame_of schemas desks history catalogue (Err u) left is ends missing books legal last =
    subst (λ o. IfNone o ((s : State) × (frame : ℕ) × (last_state history ≡ Some s) × IsUnsettledState schemas desks s frame)) (sym is)
    (state_of catalogue, frame_of u, ends, record { last = last; legal = legal; missing = missing; books = books })

-- the same of a load that came to its end
unsettled-left :
    {C T U : Type 0} (state_of : C → State) (frame_of : U → ℕ) (schemas : List (List (List ℕ × CellType))) (desks : List DeskParts) (history : List State) (catalogue : C)
    (r : Result (C × T) U) (left : Option (C × T)) (P : ℕ → Type 0) → last_state history ≡ Some (state_of catalogue) →
    IfNone left (IsErrAnd r (λ u. P (frame_of u))) → IfErr r (λ u. missing_frame desks (state_of catalogue) ≡ Some (frame_of u)) →
    AgreeWithBooks desks (state_of catalogue) → IsLegal (state_of catalogue) → IsLastState schemas (state_of catalogue) →
    IfNone left ((s : State) × (frame : ℕ) × (last_state history ≡ Some s) × IsUnsettledState schemas desks s frame × P frame)
unsettled-left state_of frame_of schemas desks history catalogue r (Some l) P ends is missing books legal last = tt
unsettled-left state_of frame_of schemas desks history catalogue (Ok x) None P ends is missing books legal last = absurd is
unsettled-left state_of frame_of schemas desks history catalogue (Err u) None P ends is missing books legal last =
    (state_of catalogue, frame_of u, ends, record { last = last; legal = legal; missing = missing; books = books }, is)

pub unsettled-answer :
    {A F C T U : Type 0} (state_of : C → State) (frame_of : U → ℕ) (left_of : F → Option (C × T)) (cause_of : F → LoadCause)
    (schemas : List (List (List ℕ × CellType))) (desks : List DeskParts) (history : List State) (catalogue : C) (r : Result (C × T) U) (result : Result A F) →
    last_state history ≡ Some (state_of catalogue) →
    IfErr result (λ f. IfNone (left_of f) (IsErrAnd r (λ u. IsCauseUnsettled (frame_of u) (cause_of f)))) →
    IfErr r (λ u. missing_frame desks (state_of catalogue) ≡ Some (frame_of u)) → AgreeWithBooks desks (state_of catalogue) → IsLegal (state_of catalogue) →
    IsLastState schemas (state_of catalogue) →
    IfErr result (λ f. IfNone (left_of f) ((s : State) × (frame : ℕ) × (last_state history ≡ Some s) × IsUnsettledState schemas desks s frame × IsCauseUnsettled frame (cause_of f)))
unsettled-answer state_of frame_of left_of cause_of schemas desks history catalogue r (Ok a) ends is missing books legal last = tt
unsettled-answer state_of frame_of left_of cause_of schemas desks history catalogue r (Err f) ends is missing books legal last =
    unsettled-left state_of frame_of schemas desks history catalogue r (left_of f) (λ frame. IsCauseUnsettled frame (cause_of f)) ends is missing books legal last

-- outcomes that are handed over
pub handed-outcomes :
    {V E : Type 0} (items : V → List Outcome) (chunks : List (List (ℕ × Piece))) (desks back : List DeskParts) (handed : Result V E) → HaveDone items chunks desks back handed →
    IfOk handed (λ v. AreOutcomes chunks (items v))
handed-outcomes items chunks desks back (Ok v) done = subst (AreOutcomes chunks) (sym done.all) done.made
handed-outcomes items chunks desks back (Err e) done = tt

pub handed-rows :
    {V E : Type 0} (items : V → List Outcome) (chunks : List (List (ℕ × Piece))) (desks back : List DeskParts) (handed : Result V E) → HaveDone items chunks desks back handed →
    IfOk handed (λ v. (frame : ℕ) → accepted_at frame back ≡ accepted_at frame desks + entered_at frame (items v))
handed-rows items chunks desks back (Ok v) done = λ frame. done.accepted frame ∙ ap (λ o. accepted_at frame desks + entered_at frame o) (sym done.all)
handed-rows items chunks desks back (Err e) done = tt

-- what a load answers is of the state of the catalogue that was settled
pub state-of-load :
    {C L T U E : Type 0} (state_of : C → State) (catalogue_of : L → C) (totals_of : L → T) (P : State → Type 0) (catalogue : C) (settled : Result (C × T) U)
    (result : Result L E) → IfOk result (λ l. settled ≡ Ok (catalogue_of l, totals_of l)) → IfOk settled (λ r. r.0 ≡ catalogue) → P (state_of catalogue) →
    IfOk result (λ l. P (state_of (catalogue_of l)))
state-of-load {C} {L} {T} {U} {E} state_of catalogue_of totals_of P catalogue settled (Ok l) loaded same holds =
    let here : catalogue_of l ≡ catalogue = subst (λ (r : Result (C × T) U). IfOk r (λ x. x.0 ≡ catalogue)) loaded same in
    subst (λ (c : C). P (state_of c)) (sym here) holds
state-of-load state_of catalogue_of totals_of P catalogue settled (Err e) loaded same holds = tt
