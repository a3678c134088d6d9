-- What is staged for a change of a frame's rows that is not refused leads to the state after it.
use Rattle.std.proofs.Common.{◌≡◌, ℕ, ◌+◌, ◌∙◌, List, length, map, refl, ap, sym, subst, arith, get_or}
use Rattle.std.specs.Prelude.{Some, None, slice_set}
use Rattle.std.proofs.lemmas.List.{length-map}
use Rattle.df_expr.specs.declared.meter.Meter.{Meter}
use Rattle.df_delta.specs.Deltas.{Changes}
use Rattle.df_delta.specs.Differences.{IsDiff}
use Rattle.df_delta.specs.Work.{IsWithin}
use Rattle.df_live.specs.Frames.{changed}
use Rattle.df_frame.specs.declared.frame_change.FrameChange.{FrameChange}
use Rattle.df_frame.specs.declared.frame_change.FrameChange.TheVariants.{Append, Delete, Prepared, Replace}
use Rattle.df_catalogue.specs.declared.staging.StagedFrame.{StagedFrame}
use Rattle.df_frame.specs.declared.state.FrameState.{FrameState}
use Rattle.df_state.specs.declared.state.RowCounts.{RowCounts}
use Rattle.df_state.specs.declared.state.State.{State}
use Rattle.df_catalogue.specs.declared.views.View.{View}
use Rattle.df_state.specs.Changes.{accepted_rows, after, change_at, deleted_rows, refreshed_views, IsSound}
use Rattle.df_state.specs.Desks.{accepted_in, deleted_in}
use Rattle.df_state.specs.FrameChanges.{change_of}
use Rattle.df_frame.specs.FrameChanges.{frame_after}
use Rattle.df_frame.specs.FrameParts.{FrameParts, schemas_of, states_of}
use Rattle.df_frame.specs.FrameTables.{tagged_rows_of}
use Rattle.df_catalogue.specs.LiveViews.{plans, tagged_frames, view_state, AreChangesOf, AreStaged, HaveRoom}
use Rattle.df_catalogue.specs.Parts.{state_of}
use Rattle.df_state.specs.Refusals.{refusal_of}
use Rattle.df_catalogue.specs.StagedChanges.{counts_of}
use Rattle.df_catalogue.specs.Staging.{frames_with, state_with_rows, IsStagedFrame}
use Rattle.df_state.specs.States.{IsLegal}
use Rattle.df_catalogue.specs.Work.{allowance, work_of_all}
use Rattle.df_catalogue.proofs.FrameChangeFacts.{delta-changes}
use Rattle.df_state.proofs.FrameChangeFacts.{after-frame, booked, schemas-set, states-set, IsChangeable}
use Rattle.df_state.proofs.Legal.{legal-after}
use Rattle.df_state.proofs.StateFacts.{change-set}
use Rattle.df_catalogue.proofs.WorkFacts.{counted-views}

-- what is known where a frame was changed so
pub record IsRowsOf (frames : List FrameParts) (views : List View) (c : FrameChange) (x : FrameParts) (r : StagedFrame) : Type 0 where
  pub legal : IsLegal (state_of (schemas_of frames) (states_of frames) views)
  pub sound : IsSound (change_of r.frame c)
  pub free : refusal_of (state_of (schemas_of frames) (states_of frames) views) (change_of r.frame c) ≡ None
  pub known : IsChangeable (state_of (schemas_of frames) (states_of frames) views) r.frame c x.state
  pub lent : x ≡ get_or frames r.frame x
  pub schema : r.changed.schema ≡ x.schema
  pub state : r.changed.state ≡ frame_after x.state c

-- the state with the changed frame is that after the change
pub rows-after :
    (frames : List FrameParts) (views now : List View) (c : FrameChange) (x : FrameParts) (r : StagedFrame) → IsRowsOf frames views c x r →
    map view_state now ≡ map view_state views →
    state_with_rows frames now r ≡ after (state_of (schemas_of frames) (states_of frames) views) (change_of r.frame c)
rows-after frames views now c x r h same_views =
    let s : State = state_of (schemas_of frames) (states_of frames) views in
    let change : FrameState → FrameState = λ x. frame_after x c in
    let new : List FrameParts = frames_with frames r in
    let at : states_of new ≡ change_at r.frame change (states_of frames) =
    states-set frames r.frame r.changed
    ∙ (ap (slice_set (states_of frames) r.frame) h.state ∙ sym (change-set change (states_of frames) r.frame x.state h.known.at)) in
    ap (λ ss. record { schemas = ss; frames = states_of new; views = refreshed_views (states_of new) (map view_state now) })
    (schemas-set frames r.frame x r.changed h.lent h.schema)
    ∙ (ap (λ ws. record { schemas = schemas_of frames; frames = states_of new; views = refreshed_views (states_of new) ws }) same_views
    ∙ (ap (λ fs. record { schemas = schemas_of frames; frames = fs; views = refreshed_views fs (map view_state views) }) at
    ∙ sym (after-frame s r.frame c)))

-- the delta leads the frames to those with the changed one
pub rows-led :
    (frames : List FrameParts) (views : List View) (c : FrameChange) (x : FrameParts) (r : StagedFrame) (d : Changes) → IsRowsOf frames views c x r →
    IsDiff (tagged_rows_of x.state) (tagged_rows_of (frame_after x.state c)) d →
    AreChangesOf views (tagged_frames (states_of frames)) r.frame d
    × (changed (tagged_frames (states_of frames)) r.frame d ≡ tagged_frames (states_of (frames_with frames r)))
rows-led frames views c x r d h diff =
    let changes = delta-changes frames views r.frame c x d h.legal h.sound h.free h.known diff in (
      changes.0,
      changes.1
          ∙ (ap (λ y. tagged_frames (slice_set (states_of frames) r.frame y)) (sym h.state) ∙ ap tagged_frames (sym (states-set frames r.frame r.changed))),
    )

-- what is staged can be committed
pub rows-sound :
    (frames : List FrameParts) (views now : List View) (c : FrameChange) (x : FrameParts) (r : StagedFrame) → IsRowsOf frames views c x r →
    map view_state now ≡ map view_state views →
    r.accepted ≡ accepted_rows (change_of r.frame c) → r.deleted ≡ deleted_rows (change_of r.frame c) →
    length r.views.items ≡ length now → AreStaged now r.views.items (tagged_frames (states_of (frames_with frames r))) → HaveRoom now r.views.items →
    IsStagedFrame frames now r
rows-sound frames views now c x r h same_views accepted deleted count leads room =
    let s : State = state_of (schemas_of frames) (states_of frames) views in
    let same = rows-after frames views now c x r h same_views in
    let books = booked s r.frame c x.state h.known in
    let long = length-map frames (λ y. y.state) in
    let within = h.known.within in record {
      within = omega (arith, long, within);
      schemas = schemas-set frames r.frame x r.changed h.lent h.schema;
      legal = subst IsLegal (sym same) (legal-after s (change_of r.frame c) h.legal h.sound h.free);
      count = count;
      leads = leads;
      room = room;
      accepted = ap accepted_in same ∙ (books.accepted ∙ ap (λ n. accepted_in s + n) (sym accepted));
      deleted = ap deleted_in same ∙ (books.deleted ∙ ap (λ n. deleted_in s + n) (sym deleted));
    }

-- what the views counted is within what the state allows
pub rows-work :
    (frames : List FrameParts) (views now : List View) (c : FrameChange) (x : FrameParts) (r : StagedFrame) (d : Changes) (work : Meter) → IsRowsOf frames views c x r →
    map view_state now ≡ map view_state views →
    changed (tagged_frames (states_of frames)) r.frame d ≡ tagged_frames (states_of (frames_with frames r)) →
    IsWithin work (work_of_all (plans views) (tagged_frames (states_of frames)) (changed (tagged_frames (states_of frames)) r.frame d)) →
    IsWithin work
    (allowance (state_of (schemas_of frames) (states_of frames) views) (after (state_of (schemas_of frames) (states_of frames) views) (change_of r.frame c)))
rows-work frames views now c x r d work h same_views led counted =
    let same = rows-after frames views now c x r h same_views in
    counted-views views (tagged_frames (states_of frames)) _ _ work (led ∙ ap (λ (t : State). tagged_frames t.frames) same) counted

-- and the desk counts the rows of the change
pub rows-counts :
    (f : ℕ) (c : FrameChange) (accepted deleted : ℕ) → accepted ≡ accepted_rows (change_of f c) → deleted ≡ deleted_rows (change_of f c) →
    Some (record { frame = f; accepted = accepted; deleted = deleted }) ≡ counts_of (change_of f c)
rows-counts f c accepted deleted e d =
    ap (λ n. Some (counts n deleted)) e ∙ (ap (λ n. Some (counts (accepted_rows (change_of f c)) n)) d ∙ counted f c)
  where
    counts : ℕ → ℕ → RowCounts
    counts a n = record { frame = f; accepted = a; deleted = n }

    counted : (f : ℕ) (c : FrameChange) →
        Some (record { frame = f; accepted = accepted_rows (change_of f c); deleted = deleted_rows (change_of f c) }) ≡ counts_of (change_of f c)
    counted f (Append chunk) = refl
    counted f (Prepared chunk) = refl
    counted f (Delete ns) = refl
    counted f (Replace rows) = refl
