-- A load whose chunks enter whole.
use Rattle.std.proofs.Common.{◌≡◌, ◌≢◌, ℕ, zero, suc, ◌==◌, ◌∙◌, Bool, true, false, List, [], ◌∷◌, ◌++◌, length, refl, ap, sym, subst, arith, not}
use Rattle.std.specs.Prelude.{All, Option, None, Some, Result, Ok, Err, filter, if◌then◌else◌, slice_get, unwrap_or, nat_lt}
use Rattle.std.specs.List.Sorted.{IsPermutation}
use Rattle.std.proofs.lemmas.Bool.{eqb-false, eqb-true}
use Rattle.std.proofs.lemmas.Grind.{flat_map-append}
use Rattle.std.proofs.lemmas.List.{append_assoc, append-nil}
use Rattle.std.proofs.lemmas.List.Elements.{All-append, All-cons, All-nil}
use Rattle.std.proofs.lemmas.List.Sorted.{IsPermutation-append_comm, IsPermutation-append_left, IsPermutation-append_right, IsPermutation-filter_both, IsPermutation-refl, IsPermutation-trans}
use Rattle.df_value.specs.declared.cell.Cell.{Cell}
use Rattle.df_value.specs.Chunks.{ChunkParts}
use Rattle.df_value.specs.declared.chunk.Piece.{Piece}
use Rattle.df_value.specs.declared.chunk.Piece.TheVariants.{Good}
use Rattle.df_frame.specs.declared.state.FrameState.{FrameState}
use Rattle.df_frame.specs.Frames.{with_chunk}
use Rattle.df_frame.specs.Numbers.{put_from}
use Rattle.df_state.specs.declared.change.Change.{Change}
use Rattle.df_state.specs.declared.change.Change.TheVariants.{Append}
use Rattle.df_state.specs.declared.state.State.{State}
use Rattle.df_state.specs.Changes.{after, change_at}
use Rattle.df_jobs.specs.declared.jobs.Outcome.{Outcome}
use Rattle.df_jobs.specs.declared.joining.Joined.{Joined}
use Rattle.df_jobs.specs.Expected.{rows_at}
use Rattle.df_jobs.specs.Jobs.{AreOutcomes, IsOutcome, job_of}
use Rattle.df_jobs.specs.Joined.{IsJoined}
use Rattle.df_jobs.specs.Loaded.{chunk_rows, job_rows, made_rows}
use Rattle.df_jobs.proofs.JoinedFacts.{joined-frame, joined-rows}
use Rattle.df_jobs.proofs.JoinedRows.{rows-of-own}
use Rattle.df_versions.specs.Answered.{AnswersChange, ChangesHistory}
use Rattle.df_versions.specs.declared.fault.ChangeFault.{ChangeFault}
use Rattle.df_store.proofs.HeadingFacts.{headings-appended}
use Rattle.df_store.proofs.StepFacts.{stepped}
use Rattle.df_store.specs.Grown.{HasGrown, HaveGrown, HaveRowsMore, IsWhole}

-- a block put in moves no item but itself
put-permutes : {T : Type 0} (number : T → ℕ) (first : ℕ) (block items : List T) → IsPermutation (items ++ block) (put_from number first block items)
put-permutes number first block items =
    let low = filter (λ x. nat_lt (number x) first) items in
    let high = filter (λ x. not (nat_lt (number x) first)) items in
    let parted = IsPermutation-filter_both (λ x. nat_lt (number x) first) (λ x. not (nat_lt (number x) first)) (λ x. refl) items in
    let moved = IsPermutation-append_right low (high ++ block) (block ++ high) (IsPermutation-append_comm high block) in
    IsPermutation-trans _ _ _ (IsPermutation-append_left block items (low ++ high) parted)
    (subst (λ l. IsPermutation l (low ++ (block ++ high))) (sym (append_assoc low high block)) moved)

-- outcomes of another frame give a frame no rows
rows-of-others : (frame at : ℕ) (os : List Outcome) → (frame == at) ≡ false → All (λ o. o.frame ≡ frame) os → rows_at at os ≡ []
rows-of-others frame at [] other of = refl
rows-of-others frame at (o ∷ os) other of =
    let here : job_rows at (job_of o) ≡ [] = ap (λ b. if b then made_rows o.made else []) (ap (λ n. n == at) (of zero o (omega arith)) ∙ other) in
    ap (λ l. l ++ rows_at at os) here ∙ rows-of-others frame at os other (λ k d h. of (suc k) d (omega (arith, h)))

changed-length : {T : Type 0} (i : ℕ) (change : T → T) (xs : List T) → length (change_at i change xs) ≡ length xs
changed-length i change [] = refl
changed-length zero change (x ∷ xs) = refl
changed-length (suc i) change (x ∷ xs) = let h = changed-length i change xs in omega (arith, h)

-- the item at the changed place is changed, and each other one is as it was
changed-here : {T : Type 0} (i : ℕ) (change : T → T) (xs : List T) (x y : T) → slice_get xs i ≡ Some x → slice_get (change_at i change xs) i ≡ Some y → y ≡ change x
changed-here i change [] x y at now = absurd (cc)
changed-here zero change (z ∷ zs) x y at now =
    let was : z ≡ x = ap (λ o. unwrap_or o z) at in
    let is : change z ≡ y = ap (λ o. unwrap_or o y) now in
    sym is ∙ ap change was
changed-here (suc i) change (z ∷ zs) x y at now = changed-here i change zs x y at now

changed-none : {T : Type 0} (i : ℕ) (change : T → T) (xs : List T) → slice_get xs i ≡ None → slice_get (change_at i change xs) i ≡ None
changed-none i change [] none = refl
changed-none zero change (x ∷ xs) none = absurd (cc)
changed-none (suc i) change (x ∷ xs) none = changed-none i change xs none

changed-elsewhere : {T : Type 0} (i k : ℕ) (change : T → T) (xs : List T) → i ≢ k → slice_get (change_at i change xs) k ≡ slice_get xs k
changed-elsewhere i k change [] other = refl
changed-elsewhere zero zero change (x ∷ xs) other = absurd (other refl)
changed-elsewhere zero (suc k) change (x ∷ xs) other = refl
changed-elsewhere (suc i) zero change (x ∷ xs) other = refl
changed-elsewhere (suc i) (suc k) change (x ∷ xs) other = changed-elsewhere i k change xs (λ e. other (ap suc e))

module _ (frame : ℕ) (c : ChunkParts) (os : List Outcome) (of : All (λ o. o.frame ≡ frame) os) (is : chunk_rows c ≡ rows_at frame os) where
  -- the frame of the chunk has its rows more
  more-here :
      (entered : List Outcome) (f g : List (ℕ × List Cell)) → IsPermutation (f ++ rows_at frame entered) g →
      IsPermutation (f ++ rows_at frame (entered ++ os)) (put_from (λ r. r.0) c.first (chunk_rows c) g)
  more-here entered f g h =
      let old = rows_at frame entered in
      let rows : rows_at frame (entered ++ os) ≡ old ++ chunk_rows c = flat_map-append (λ o. job_rows frame (job_of o)) entered os ∙ ap (λ l. old ++ l) (sym is) in
      let all : f ++ rows_at frame (entered ++ os) ≡ (f ++ old) ++ chunk_rows c = ap (λ l. f ++ l) rows ∙ sym (append_assoc f old (chunk_rows c)) in
      subst (λ l. IsPermutation l (put_from (λ r. r.0) c.first (chunk_rows c) g)) (sym all)
      (IsPermutation-trans _ _ _ (IsPermutation-append_left (chunk_rows c) (f ++ old) g h) (put-permutes (λ r. r.0) c.first (chunk_rows c) g))

  -- another frame has as many as before
  more-elsewhere :
      (entered : List Outcome) (at : ℕ) (f g : List (ℕ × List Cell)) → (frame == at) ≡ false → IsPermutation (f ++ rows_at at entered) g →
      IsPermutation (f ++ rows_at at (entered ++ os)) g
  more-elsewhere entered at f g other h =
      let rows : rows_at at (entered ++ os) ≡ rows_at at entered =
      flat_map-append (λ o. job_rows at (job_of o)) entered os ∙ (ap (λ l. rows_at at entered ++ l) (rows-of-others frame at os other of) ∙ append-nil (rows_at at entered)) in
      subst (λ l. IsPermutation (f ++ l) g) (sym rows) h

  frames-more :
      (entered : List Outcome) (before frames : List FrameState) → HaveRowsMore entered before frames →
      HaveRowsMore (entered ++ os) before (change_at frame (with_chunk c) frames)
  frames-more entered before frames h = record {
    count = changed-length frame (with_chunk c) frames ∙ h.count;
    rows = λ at f g was now. go at f g was now (frame == at) refl (slice_get frames at) refl;
  }
    where
      go :
          (at : ℕ) (f g : FrameState) → slice_get before at ≡ Some f → slice_get (change_at frame (with_chunk c) frames) at ≡ Some g → (b : Bool) → (frame == at) ≡ b →
          (o : Option FrameState) → slice_get frames at ≡ o → IsPermutation (f.rows ++ rows_at at (entered ++ os)) g.rows
      go at f g was now false e o is_at =
          let stands : slice_get frames at ≡ Some g = sym (changed-elsewhere frame at (with_chunk c) frames (eqb-false frame at e)) ∙ now in
          more-elsewhere entered at f.rows g.rows e (h.rows at f g was stands)
      go at f g was now true e None is_at =
          let same : frame ≡ at = eqb-true frame at e in
          let none : slice_get (change_at frame (with_chunk c) frames) frame ≡ None = changed-none frame (with_chunk c) frames (ap (slice_get frames) same ∙ is_at) in
          let stands : slice_get (change_at frame (with_chunk c) frames) frame ≡ Some g = ap (slice_get (change_at frame (with_chunk c) frames)) same ∙ now in
          absurd (cc)
      go at f g was now true e (Some x) is_at =
          let same : frame ≡ at = eqb-true frame at e in
          let there : slice_get frames frame ≡ Some x = ap (slice_get frames) same ∙ is_at in
          let stands : slice_get (change_at frame (with_chunk c) frames) frame ≡ Some g = ap (slice_get (change_at frame (with_chunk c) frames)) same ∙ now in
          let is : g ≡ with_chunk c x = changed-here frame (with_chunk c) frames x g there stands in
          let here = more-here entered f.rows x.rows (h.rows frame f x (ap (slice_get before) same ∙ was) there) in
          subst (λ n. IsPermutation (f.rows ++ rows_at n (entered ++ os)) g.rows) same
          (subst (λ y. IsPermutation (f.rows ++ rows_at frame (entered ++ os)) y.rows) (sym is) here)

-- where nothing came, no chunk entered
none-more : (frames : List FrameState) → HaveRowsMore [] frames frames
none-more frames = record {
  count = refl;
  rows = λ frame f g was now.
      let same : f ≡ g = ap (λ o. unwrap_or o f) (sym was ∙ now) in
      subst (λ x. IsPermutation (f.rows ++ []) x.rows) same (subst (λ l. IsPermutation l f.rows) (sym (append-nil f.rows)) (IsPermutation-refl f.rows));
}

module _ (chunks : List (List (ℕ × Piece))) where
  pub grown-none : (s : State) → HasGrown chunks s s
  grown-none s = record { entered = []; made = All-nil (IsOutcome chunks); frames = none-more s.frames; views = refl }

  -- a history has grown from itself
  pub grown-itself : (history : List State) → HaveGrown chunks history history
  grown-itself history = record {
    later = [];
    goes_on = sym (append-nil history);
    states = λ s t first last. let same : s ≡ t = ap (λ o. unwrap_or o s) (sym first ∙ last) in subst (HasGrown chunks s) same (grown-none s);
  }

  grown-one : (before s : State) (frame : ℕ) (c : ChunkParts) → HasGrown chunks before s → IsWhole chunks frame c → HasGrown chunks before (after s (Append frame c))
  grown-one before s frame c h whole = record {
    entered = h.entered ++ whole.outcomes;
    made = All-append (IsOutcome chunks) h.entered whole.outcomes h.made whole.made;
    frames = frames-more frame c whole.outcomes whole.of_frame whole.rows h.entered before.frames s.frames h.frames;
    views = headings-appended s frame c ∙ h.views;
  }

  module _ {J : Type 0} where
    -- whatever a whole chunk is answered with, the history has grown
    grown-by :
        (before old new : List State) (floor frame : ℕ) (c : ChunkParts) (r : Result (List State) (ChangeFault J)) → HaveGrown chunks before old → IsWhole chunks frame c →
        AnswersChange old floor (Append frame c) r → ChangesHistory old r new → HaveGrown chunks before new
    grown-by before old new floor frame c (Ok told) h whole answer changes =
        let step = stepped old new floor (Append frame c) told answer changes in
        let next = after step.0 (Append frame c) in record {
          later = h.later ++ next ∷ [];
          goes_on = step.2 ∙ (ap (λ (l : List State). l ++ next ∷ []) h.goes_on ∙ append_assoc before h.later (next ∷ []));
          states = λ s t first last.
              let same : next ≡ t = ap (λ o. unwrap_or o t) (sym step.3 ∙ last) in
              subst (HasGrown chunks s) same (grown-one s step.0 frame c (h.states s step.0 first step.1) whole);
        }
    grown-by before old new floor frame c (Err f) h whole answer changes = subst (HaveGrown chunks before) (sym changes.same) h

    -- the same of a change that appends the chunk
    pub grown-through :
        (before old new : List State) (floor frame : ℕ) (c : ChunkParts) (x : Change) (r : Result (List State) (ChangeFault J)) → HaveGrown chunks before old →
        IsWhole chunks frame c → x ≡ Append frame c → AnswersChange old floor x r → ChangesHistory old r new → HaveGrown chunks before new
    grown-through before old new floor frame c x r h whole is answer changes =
        grown-by before old new floor frame c r h whole (subst (λ (y : Change). AnswersChange old floor y r) is answer) changes

  -- the chunk of an outcome is whole
  pub whole-one : (o : Outcome) (c : ChunkParts) → IsOutcome chunks o → o.made ≡ Good c → IsWhole chunks o.frame c
  whole-one o c is good = record {
    outcomes = o ∷ [];
    made = All-cons (IsOutcome chunks) o [] is (All-nil (IsOutcome chunks));
    of_frame = All-cons (λ p. p.frame ≡ o.frame) o [] refl (All-nil (λ p. p.frame ≡ o.frame));
    rows = sym (ap made_rows good) ∙ (sym (rows-of-own o.frame o refl) ∙ sym (append-nil (job_rows o.frame (job_of o))));
  }

  -- so is the run of several
  pub whole-joined : (j : Joined) → AreOutcomes chunks j.outcomes.items → IsJoined j → IsWhole chunks j.frame j.run
  whole-joined j are is = record { outcomes = j.outcomes.items; made = are; of_frame = joined-frame j is; rows = joined-rows j is }
