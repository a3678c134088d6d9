-- Changes in two steps, by what was answered: what a staging tells, and that a staging and its commit are the whole change.
use Rattle.std.proofs.Common.{◌≡◌, ℕ, ◌∙◌, Bool, List, refl, ap, sym, subst}
use Rattle.std.specs.Prelude.{Option, Some, None, Result, Ok, Err, IsSomeAnd, option_and_then, option_map}
use Rattle.df_expr.specs.declared.meter.Meter.{Meter}
use Rattle.df_delta.specs.Deltas.{Changes}
use Rattle.df_delta.specs.Work.{IsWithin}
use Rattle.df_plan.specs.CheckedParts.{CheckedParts}
use Rattle.df_state.specs.declared.change.Change.{Change}
use Rattle.df_state.specs.declared.change.Change.TheVariants.{Register}
use Rattle.df_state.specs.declared.fault.CatalogueFault.{CatalogueFault}
use Rattle.df_state.specs.declared.fault.CatalogueFault.TheVariants as fault
use Rattle.df_frame.specs.declared.frame_change.FrameChange.{FrameChange}
use Rattle.df_frame.specs.declared.frame_change.FrameChange.TheVariants.{Append, Delete, Prepared, Replace}
use Rattle.df_catalogue.specs.declared.staging.StagedFrame.{StagedFrame}
use Rattle.df_catalogue.specs.declared.staging.Staging.{Staging}
use Rattle.df_catalogue.specs.declared.staging.Staging.TheVariants.{Rows}
use Rattle.df_state.specs.declared.state.CatalogueParts.{CatalogueParts}
use Rattle.df_state.specs.declared.state.RowCounts.{RowCounts}
use Rattle.df_state.specs.declared.state.StagedParts.{StagedParts}
use Rattle.df_state.specs.declared.state.State.{State}
use Rattle.df_catalogue.specs.declared.views.View.{View}
use Rattle.df_state.specs.Answers.{RefusedBy}
use Rattle.df_state.specs.Changes as changes
use Rattle.df_state.specs.Desks.{DeskParts, desk_after}
use Rattle.df_state.specs.FrameChanges.{change_of}
use Rattle.df_frame.specs.FrameParts.{FrameParts, schemas_of, states_of}
use Rattle.df_catalogue.specs.KeptChanges.{AreKeptAt, HasChangesOf, HasSameChanges}
use Rattle.df_catalogue.specs.LiveViews.{changes_staged}
use Rattle.df_catalogue.specs.Parts.{state_of}
use Rattle.df_state.specs.Refusals.{refusal_of}
use Rattle.df_catalogue.specs.StagedChanges.{counted_desk, counts_of, counts_staged, IsCommit, IsStagedChange, IsStagedFor}
use Rattle.df_catalogue.specs.Staging.{staged_parts, state_with_rows}
use Rattle.df_state.specs.States.{IsLegal}
use Rattle.df_state.specs.Transitions.{IsTransition, IsTransitionOfDesk}
use Rattle.df_catalogue.specs.Work.{IsCounted, IsWorkOf, allowance, allowed_after}
use Rattle.df_catalogue.proofs.WorkFacts.{counted-frame}

-- a change that was staged
pub staged-made :
    {T : Type 0} (t : T) (frames : List FrameParts) (views : List View) (state : State) (work : Meter) (o : Option Staging) (s : Staging) (keeps : Bool)
    (kept : List (Option Changes)) (old : CatalogueParts) (c : Change) → o ≡ Some s → changes.IsSound c → refusal_of old.state c ≡ None →
    IsStagedFor old c (staged_parts frames views work s) → state ≡ old.state → work ≡ old.work → keeps ≡ old.keeps → kept ≡ old.changes → IsLegal state →
    IsStagedChange old c (Ok t) (record { state = state; work = work; staged = option_map (staged_parts frames views work) o; keeps = keeps; changes = kept })
staged-made t frames views state work o s keeps kept old c is sound free for same same_work same_keeps same_kept legal =
    subst (λ p. IsStagedChange old c (Ok t) (record { state = state; work = work; staged = option_map (staged_parts frames views work) p; keeps = keeps; changes = kept }))
    (sym is)
    (record {
      sound = sound;
      accepted = free;
      staged = for;
      refused = tt;
      nothing = tt;
      state = same;
      work = same_work;
      kept = record { keeps = same_keeps; changes = same_kept };
      legal = legal;
    })

-- one that was refused
pub not-staged :
    {T : Type 0} (old new : CatalogueParts) (c : Change) (f : CatalogueFault) → RefusedBy old.state c f → new.staged ≡ None → new.state ≡ old.state →
    new.work ≡ old.work → HasSameChanges old new → IsLegal new.state → IsStagedChange {T = T} old c (Err f) new
not-staged old new c f refused none same same_work kept legal =
    record { sound = tt; accepted = tt; staged = tt; refused = refused; nothing = none; state = same; work = same_work; kept = kept; legal = legal }

for-old :
    (old mid : CatalogueParts) (c : Change) (s : StagedParts) → mid.state ≡ old.state → mid.work ≡ old.work → mid.keeps ≡ old.keeps → IsStagedFor mid c s →
    IsStagedFor old c s
for-old old mid c s same same_work same_keeps h = record {
  state = subst (λ t. s.state ≡ changes.after t c) same h.state;
  legal = h.legal;
  work = subst (λ t. IsCounted (allowed_after t c None) old.work s.work) same (subst (λ m. IsCounted (allowed_after mid.state c None) m s.work) same_work h.work);
  rows = h.rows;
  kept = subst (λ t. AreKeptAt old.keeps c t s.state s.changes) same (subst (λ k. AreKeptAt k c mid.state s.state s.changes) same_keeps h.kept);
}

for-some :
    (old mid : CatalogueParts) (c : Change) (o : Option StagedParts) → mid.state ≡ old.state → mid.work ≡ old.work → mid.keeps ≡ old.keeps →
    IsSomeAnd o (IsStagedFor mid c) → IsSomeAnd o (IsStagedFor old c)
for-some old mid c None same same_work same_keeps h = h
for-some old mid c (Some s) same same_work same_keeps h = for-old old mid c s same same_work same_keeps h

pub same-kept : (c : CatalogueParts) → HasSameChanges c c
same-kept c = record { keeps = refl; changes = refl }

kept-after : (old mid new : CatalogueParts) → HasSameChanges old mid → HasSameChanges mid new → HasSameChanges old new
kept-after old mid new h k = record { keeps = k.keeps ∙ h.keeps; changes = k.changes ∙ h.changes }

-- what was staged over the same state, work and kept changes
pub staged-after :
    {T : Type 0} (old mid new : CatalogueParts) (c : Change) (r : Result T CatalogueFault) → mid.state ≡ old.state → mid.work ≡ old.work →
    HasSameChanges old mid → IsStagedChange mid c r new → IsStagedChange old c r new
staged-after old mid new c (Ok t) same same_work kept h = record {
  sound = h.sound;
  accepted = subst (λ s. refusal_of s c ≡ None) same h.accepted;
  staged = for-some old mid c new.staged same same_work kept.keeps h.staged;
  refused = tt;
  nothing = tt;
  state = h.state ∙ same;
  work = h.work ∙ same_work;
  kept = kept-after old mid new kept h.kept;
  legal = h.legal;
}
staged-after old mid new c (Err f) same same_work kept h = record {
  sound = tt;
  accepted = tt;
  staged = tt;
  refused = subst (λ s. RefusedBy s c f) same h.refused;
  nothing = h.nothing;
  state = h.state ∙ same;
  work = h.work ∙ same_work;
  kept = kept-after old mid new kept h.kept;
  legal = h.legal;
}

-- the frame by another name
pub staged-at :
    {T : Type 0} (old new : CatalogueParts) (c : FrameChange) (f g : ℕ) (r : Result T CatalogueFault) → f ≡ g → IsStagedChange old (change_of f c) r new →
    IsStagedChange old (change_of g c) r new
staged-at old new c f g r same h = subst (λ i. IsStagedChange old (change_of i c) r new) same h

-- ---- the whole change

counts-frame : (f : ℕ) (c : FrameChange) → option_map (λ r. r.frame) (counts_of (change_of f c)) ≡ Some f
counts-frame f (Append chunk) = refl
counts-frame f (Prepared chunk) = refl
counts-frame f (Delete ns) = refl
counts-frame f (Replace rows) = refl

frame-of :
    (old : CatalogueParts) (f : ℕ) (c : FrameChange) (o : Option StagedParts) → IsSomeAnd o (IsStagedFor old (change_of f c)) →
    option_map (λ r. r.frame) (option_and_then (λ s. s.rows) o) ≡ Some f
frame-of old f c None h = absurd h
frame-of old f c (Some s) h = ap (option_map (λ (r : RowCounts). r.frame)) h.rows ∙ counts-frame f c

-- the rows that are staged are those of the frame
pub staged-frame :
    (old mid : CatalogueParts) (f : ℕ) (c : FrameChange) → IsSomeAnd mid.staged (IsStagedFor old (change_of f c)) →
    option_map (λ r. r.frame) (counts_staged mid) ≡ Some f
staged-frame old mid f c h = frame-of old f c mid.staged h

state-of-commit :
    (old new : CatalogueParts) (c : Change) (o : Option StagedParts) → IsSomeAnd o (IsStagedFor old c) → IsSomeAnd o (λ s. new.state ≡ s.state) →
    new.state ≡ changes.after old.state c
state-of-commit old new c None h k = absurd h
state-of-commit old new c (Some s) h k = k ∙ h.state

work-of-commit :
    (old new : CatalogueParts) (c : Change) (o : Option StagedParts) → IsSomeAnd o (IsStagedFor old c) → IsSomeAnd o (λ s. new.work ≡ s.work) →
    IsCounted (allowed_after old.state c None) old.work new.work
work-of-commit old new c None h k = absurd h
work-of-commit old new c (Some s) h k = subst (IsCounted (allowed_after old.state c None) old.work) (sym k) h.work

-- what is kept once what was staged is committed
pub kept-of-commit :
    (old new : CatalogueParts) (c : Change) (o : Option StagedParts) → IsSomeAnd o (IsStagedFor old c) → IsSomeAnd o (λ s. new.state ≡ s.state) →
    IsSomeAnd o (λ s. new.changes ≡ s.changes) → AreKeptAt old.keeps c old.state new.state new.changes
kept-of-commit old new c None h is kept = absurd h
kept-of-commit old new c (Some s) h is kept =
    subst (λ t. AreKeptAt old.keeps c old.state t new.changes) (sym is) (subst (AreKeptAt old.keeps c old.state s.state) (sym kept) h.kept)

-- staged and committed, the state is that after the change
pub whole-state :
    {T U : Type 0} (t : T) (u : U) (old mid new : CatalogueParts) (c : Change) → IsStagedChange old c (Ok t) mid → IsCommit mid new →
    IsTransition old.state c (Ok u) new.state
whole-state t u old mid new c h k =
    record { accepted = h.accepted; after = state-of-commit old new c mid.staged h.staged k.state; refused = tt; same = tt; legal = k.legal }

pub whole-work :
    {T U : Type 0} (t : T) (u : U) (old mid new : CatalogueParts) (c : Change) → IsStagedChange old c (Ok t) mid → IsCommit mid new →
    IsWorkOf old c (Ok u) new
whole-work t u old mid new c h k = record { counted = work-of-commit old new c mid.staged h.staged k.work; same = tt }

pub whole-changes :
    {T U : Type 0} (t : T) (u : U) (old mid new : CatalogueParts) (c : Change) → IsStagedChange old c (Ok t) mid → IsCommit mid new →
    HasChangesOf old c (Ok u) new
whole-changes t u old mid new c h k =
    record { keeps = k.keeps ∙ h.kept.keeps; kept = kept-of-commit old new c mid.staged h.staged k.state k.changes; same = tt }

-- and where nothing was staged all is as it was
pub refused-state :
    {T U : Type 0} (f : CatalogueFault) (old new : CatalogueParts) (c : Change) → IsStagedChange {T = T} old c (Err f) new → IsTransition {T = U} old.state c (Err f) new.state
refused-state f old new c h = record { accepted = tt; after = tt; refused = h.refused; same = h.state; legal = h.legal }

pub refused-work :
    {T U : Type 0} (f : CatalogueFault) (old new : CatalogueParts) (c : Change) → IsStagedChange {T = T} old c (Err f) new → IsWorkOf {T = U} old c (Err f) new
refused-work f old new c h = record { counted = tt; same = h.work }

pub refused-changes :
    {T U : Type 0} (f : CatalogueFault) (old new : CatalogueParts) (c : Change) → IsStagedChange {T = T} old c (Err f) new → HasChangesOf {T = U} old c (Err f) new
refused-changes f old new c h = record { keeps = h.kept.keeps; kept = tt; same = h.kept.changes }

desk-counted : (f : ℕ) (c : FrameChange) (d new : DeskParts) → IsSomeAnd (counts_of (change_of f c)) (λ r. new ≡ counted_desk d r) → new ≡ desk_after d (change_of f c)
desk-counted f (Append chunk) d new h = h
desk-counted f (Prepared chunk) d new h = h
desk-counted f (Delete ns) d new h = h
desk-counted f (Replace rows) d new h = h

desk-of :
    (old : CatalogueParts) (f : ℕ) (c : FrameChange) (d new : DeskParts) (o : Option StagedParts) → IsSomeAnd o (IsStagedFor old (change_of f c)) →
    IsSomeAnd (option_and_then (λ s. s.rows) o) (λ r. new ≡ counted_desk d r) → new ≡ desk_after d (change_of f c)
desk-of old f c d new None h k = absurd h
desk-of old f c d new (Some s) h k = desk-counted f c d new (subst (λ p. IsSomeAnd p (λ r. new ≡ counted_desk d r)) h.rows k)

-- the desk counts the rows of the change
pub whole-desk :
    {T U : Type 0} (t : T) (u : U) (old mid : CatalogueParts) (f : ℕ) (c : FrameChange) (d new : DeskParts) → IsStagedChange old (change_of f c) (Ok t) mid →
    IsSomeAnd (counts_staged mid) (λ r. new ≡ counted_desk d r) → IsTransitionOfDesk d (change_of f c) (Ok u) new
whole-desk t u old mid f c d new h k = record { counted = desk-of old f c d new mid.staged h.staged k; same = tt }

-- ---- memory that was refused

-- a change of rows takes memory
pub out-of-memory : (s : State) (f : ℕ) (c : FrameChange) → refusal_of s (change_of f c) ≡ None → RefusedBy s (change_of f c) fault.Memory
out-of-memory s f (Append chunk) free = record { exact = λ n. absurd (n refl); memory_last = λ m. free; memory_taken = λ m. refl }
out-of-memory s f (Prepared chunk) free = record { exact = λ n. absurd (n refl); memory_last = λ m. free; memory_taken = λ m. refl }
out-of-memory s f (Delete ns) free = record { exact = λ n. absurd (n refl); memory_last = λ m. free; memory_taken = λ m. refl }
out-of-memory s f (Replace rows) free = record { exact = λ n. absurd (n refl); memory_last = λ m. free; memory_taken = λ m. refl }

-- and so does a view that comes
pub no-room : (s : State) (name : List ℕ) (p : CheckedParts) → refusal_of s (Register name p) ≡ None → RefusedBy s (Register name p) fault.Memory
no-room s name p free = record { exact = λ n. absurd (n refl); memory_last = λ m. free; memory_taken = λ m. refl }

-- ---- what is staged

-- something is staged, and it is for the change
pub staged-some :
    (frames : List FrameParts) (views : List View) (work : Meter) (o : Option Staging) (s : Staging) (old : CatalogueParts) (c : Change) → o ≡ Some s →
    IsStagedFor old c (staged_parts frames views work s) → IsSomeAnd (option_map (staged_parts frames views work) o) (IsStagedFor old c)
staged-some frames views work o s old c is for = subst (λ p. IsSomeAnd (option_map (staged_parts frames views work) p) (IsStagedFor old c)) (sym is) for

-- rows that lead to the state after a change of them are for the change
pub rows-for :
    (frames : List FrameParts) (views now : List View) (work : Meter) (r : StagedFrame) (old : CatalogueParts) (c : FrameChange) →
    state_of (schemas_of frames) (states_of frames) views ≡ old.state →
    state_with_rows frames now r ≡ changes.after (state_of (schemas_of frames) (states_of frames) views) (change_of r.frame c) →
    IsLegal (state_with_rows frames now r) →
    IsWithin r.work
    (allowance (state_of (schemas_of frames) (states_of frames) views) (changes.after (state_of (schemas_of frames) (states_of frames) views) (change_of r.frame c))) →
    Some (record { frame = r.frame; accepted = r.accepted; deleted = r.deleted }) ≡ counts_of (change_of r.frame c) →
    AreKeptAt old.keeps (change_of r.frame c) old.state (state_with_rows frames now r) (changes_staged r.views.items) →
    IsStagedFor old (change_of r.frame c) (staged_parts frames now work (Rows r))
rows-for frames views now work r old c told after legal counted counts kept = record {
  state = subst (λ s. state_with_rows frames now r ≡ changes.after s (change_of r.frame c)) told after;
  legal = legal;
  work =
      counted-frame old.state r.frame c r.work old.work
      (subst (λ s. IsWithin r.work (allowance s (changes.after s (change_of r.frame c)))) told counted);
  rows = counts;
  kept = kept;
}
