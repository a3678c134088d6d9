-- What the views count one after another, and what is allowed after changes in turn.
use Rattle.std.proofs.Common.{◌≡◌, ℕ, zero, suc, ◌+◌, ◌*◌, ◌^◌, ◌<◌, ◌≤◌, ◌∙◌, List, [], ◌∷◌, ◌++◌, drop, fold, get_or, length, map, refl, ap, sym, subst, arith}
use Rattle.std.specs.Prelude.{Option, None, Result, Ok, Err}
use Rattle.std.specs.Result.{result_err}
use Rattle.std.proofs.lemmas.List.{append-nil, drop_more}
use Rattle.df_expr.specs.declared.meter.Meter.{Meter}
use Rattle.df_column.specs.Tables.{TaggedRows}
use Rattle.df_delta.specs.Work.{IsBelow, IsWithin, no_work, plus}
use Rattle.df_plan.specs.CheckedParts.{CheckedParts}
use Rattle.df_live.specs.Views.{most_work, work}
use Rattle.df_state.specs.declared.change.Change.{Change}
use Rattle.df_state.specs.declared.change.Change.TheVariants.{Append, Delete, Replace, Register, DropView}
use Rattle.df_state.specs.declared.fault.CatalogueFault.{CatalogueFault}
use Rattle.df_frame.specs.declared.frame_change.FrameChange.{FrameChange}
use Rattle.df_frame.specs.declared.frame_change.FrameChange.TheVariants as RowsOf
use Rattle.df_state.specs.declared.state.CatalogueParts.{CatalogueParts}
use Rattle.df_state.specs.declared.state.State.{State}
use Rattle.df_catalogue.specs.declared.views.View.{View}
use Rattle.df_state.specs.Changes.{after}
use Rattle.df_state.specs.FrameChanges.{change_of}
use Rattle.df_catalogue.specs.LiveViews.{headings, plans, view_state}
use Rattle.df_state.specs.Runs.{AnswersEach, accepted_changes}
use Rattle.df_catalogue.specs.Work.{IsCounted, IsWorkOf, IsWorkOfReplay, allowance, allowed_after, allowed_after_all, counting_step, work_of_all}
use Rattle.df_state.proofs.RunFacts.{accepted_changes-none, accepted_changes-some, fold-more, made}

-- what the plans from the k-th on may count
abbrev pub work_from : List CheckedParts → ℕ → List TaggedRows → List TaggedRows → Meter
work_from ps k frames new_frames = work_of_all (drop k ps) frames new_frames

work_at :
    (ps : List CheckedParts) (k : ℕ) (p : CheckedParts) (frames new_frames : List TaggedRows) → k < length ps →
    work_from ps k frames new_frames ≡ plus (work (get_or ps k p) frames new_frames) (work_from ps (k + 1) frames new_frames)
work_at ps k p frames new_frames lt = ap (λ qs. work_of_all qs frames new_frames) (drop_more ps k p lt)

-- work that is within a first part, with what is left, is within the whole
within_parts : (counted before first rest most : Meter) → IsWithin counted (plus before first) → IsWithin (plus before (plus first rest)) most → IsWithin (plus counted rest) most
within_parts counted before first rest most h g =
    (omega (arith, h.0, g.0), omega (arith, h.1, g.1), omega (arith, h.2, g.2), omega (arith, h.3, g.3))

-- one view more was counted
pub counted_more :
    (ps : List CheckedParts) (k : ℕ) (p : CheckedParts) (frames new_frames : List TaggedRows) (before counted most : Meter) → k < length ps →
    IsWithin counted (plus before (work (get_or ps k p) frames new_frames)) → IsWithin (plus before (work_from ps k frames new_frames)) most →
    IsWithin (plus counted (work_from ps (k + 1) frames new_frames)) most
counted_more ps k p frames new_frames before counted most lt h g =
    within_parts counted before (work (get_or ps k p) frames new_frames) (work_from ps (k + 1) frames new_frames) most h
    (subst (λ w. IsWithin (plus before w) most) (work_at ps k p frames new_frames lt) g)

drop_all : {X : Type 0} → (xs : List X) (k : ℕ) → length xs ≤ k → drop k xs ≡ []
drop_all [] zero h = refl
drop_all [] (suc k) h = refl
drop_all (x ∷ xs) zero h = absurd (omega (arith, h))
drop_all (x ∷ xs) (suc k) h = drop_all xs k (omega (arith, h))

-- all of them were
pub counted_all :
    (ps : List CheckedParts) (k : ℕ) (frames new_frames : List TaggedRows) (counted most : Meter) → length ps ≤ k →
    IsWithin (plus counted (work_from ps k frames new_frames)) most → IsWithin counted most
counted_all ps k frames new_frames counted most past h =
    (omega (arith, h.0), omega (arith, h.1), omega (arith, h.2), omega (arith, h.3))

-- nothing was counted yet
pub counted_none : (ps : List CheckedParts) (frames new_frames : List TaggedRows) (m : Meter) → m ≡ no_work → IsWithin (plus m (work_from ps 0 frames new_frames)) (work_of_all ps frames new_frames)
counted_none ps frames new_frames m e =
    subst (λ (n : Meter). IsWithin (plus n (work_from ps 0 frames new_frames)) (work_of_all ps frames new_frames)) (sym e)
    (omega arith, omega arith, omega arith, omega arith)

-- so many views count no more than so many times the most
abbrev pub IsFew : Meter → ℕ → Type 0
IsFew m k = IsBelow m (k * 2 ^ 94 + 1)

pub few_none : (m : Meter) → m ≡ no_work → IsFew m 0
few_none m e = subst (λ (n : Meter). IsFew n 0) (sym e) (omega arith, omega arith, omega arith, omega arith)

pub few_more : (m n : Meter) (k : ℕ) → IsFew m k → IsWithin n (plus m most_work) → IsFew n (k + 1)
few_more m n k h g = (omega (arith, h.0, g.0), omega (arith, h.1, g.1), omega (arith, h.2, g.2), omega (arith, h.3, g.3))

pub few_below : (m : Meter) (k : ℕ) → k < 32 → IsFew m k → IsBelow m (2 ^ 127)
few_below m k few h = (omega (arith, few, h.0), omega (arith, few, h.1), omega (arith, few, h.2), omega (arith, few, h.3))

plans_of : (views : List View) → map (λ h. h.1) (headings views) ≡ plans views
plans_of [] = refl
plans_of (v ∷ vs) = ap (λ ps. v.live.plan ∷ ps) (plans_of vs)

-- the plans of views with the same headings are the same
pub plans_same : (views others : List View) → headings views ≡ headings others → plans views ≡ plans others
plans_same views others same = sym (plans_of views) ∙ (ap (map (λ h. h.1)) same ∙ plans_of others)

pub plan_at : (views : List View) (k : ℕ) (d : View) → get_or (plans views) k d.live.plan ≡ (get_or views k d).live.plan
plan_at [] k d = refl
plan_at (v ∷ vs) zero d = refl
plan_at (v ∷ vs) (suc k) d = plan_at vs k d

-- the plans of views are those that their states tell
pub plans_told : (views : List View) → map (λ v. v.plan) (map view_state views) ≡ plans views
plans_told [] = refl
plans_told (v ∷ vs) = ap (λ ps. v.live.plan ∷ ps) (plans_told vs)

-- what the views counted, over the frames by another name
pub counted-views :
    (views : List View) (frames new_frames others : List TaggedRows) (m : Meter) → new_frames ≡ others → IsWithin m (work_of_all (plans views) frames new_frames) →
    IsWithin m (work_of_all (map (λ v. v.plan) (map view_state views)) frames others)
counted-views views frames new_frames others m same h =
    subst (λ fs. IsWithin m (work_of_all (map (λ v. v.plan) (map view_state views)) frames fs)) same
    (subst (λ ps. IsWithin m (work_of_all ps frames new_frames)) (sym (plans_told views)) h)

-- the work of a change of a frame's rows
pub counted-frame :
    (s : State) (f : ℕ) (c : FrameChange) (m old : Meter) → IsWithin m (allowance s (after s (change_of f c))) → IsCounted (allowed_after s (change_of f c) None) old m
counted-frame s f (RowsOf.Append chunk) m old h = h
counted-frame s f (RowsOf.Prepared chunk) m old h = h
counted-frame s f (RowsOf.Delete ns) m old h = h
counted-frame s f (RowsOf.Replace rows) m old h = h

-- the work of one change more, where something may have been counted before it
counted_next : (s : State) (c : Change) (o : Option Meter) (old now new : Meter) → IsCounted o old now → IsCounted (allowed_after s c None) now new → IsCounted (allowed_after s c o) old new
counted_next s (Append f chunk) o old now new h g = g
counted_next s (Delete f ns) o old now new h g = g
counted_next s (Replace f rows) o old now new h g = g
counted_next s (Register name p) o old now new h g = subst (IsCounted o old) (sym g) h
counted_next s (DropView name) o old now new h g = subst (IsCounted o old) (sym g) h

-- what is allowed is counted over the states after the changes
state_of_steps : (s : State) (o : Option Meter) (cs : List Change) → (fold counting_step (s, o) cs).0 ≡ fold after s cs
state_of_steps s o [] = refl
state_of_steps s o (c ∷ cs) = state_of_steps (after s c) (allowed_after s c o) cs

allowed_more : (s : State) (cs : List Change) (c : Change) → allowed_after_all s (cs ++ c ∷ []) ≡ allowed_after (fold after s cs) c (allowed_after_all s cs)
allowed_more s cs c =
    ap (λ (p : State × Option Meter). p.1) (fold-more counting_step (s, None) cs c)
    ∙ ap (λ t. allowed_after t c (allowed_after_all s cs)) (state_of_steps s None cs)

-- the work of changes in turn, with one more
pub counted_run :
    (s : State) (old : Meter) (now new : CatalogueParts) (done : List Change) (answers : List (Option CatalogueFault)) (c : Change)
    (r : Result (Unit {0}) CatalogueFault) → AnswersEach s done answers → now.state ≡ made s done answers →
    IsCounted (allowed_after_all s (accepted_changes done answers)) old now.work → IsWorkOf now c r new →
    IsCounted (allowed_after_all s (accepted_changes (done ++ c ∷ []) (answers ++ result_err r ∷ []))) old new.work
counted_run s old now new done answers c (Ok x) answered is h g =
    let before = accepted_changes done answers in
    let here : IsCounted (allowed_after (fold after s before) c None) now.work new.work = subst (λ t. IsCounted (allowed_after t c None) now.work new.work) is g.counted in
    subst (λ cs. IsCounted (allowed_after_all s cs) old new.work) (sym (accepted_changes-none s done answers c answered))
    (subst (λ o. IsCounted o old new.work) (sym (allowed_more s before c))
    (counted_next (fold after s before) c (allowed_after_all s before) old now.work new.work h here))
counted_run s old now new done answers c (Err f) answered is h g =
    subst (λ cs. IsCounted (allowed_after_all s cs) old new.work) (sym (accepted_changes-some s done answers c f answered))
    (subst (λ m. IsCounted (allowed_after_all s (accepted_changes done answers)) old m) (sym g.same) h)

-- what is counted in a run of which nothing is left
pub replayed-work :
    (old : CatalogueParts) (now : CatalogueParts) (all done rest : List Change) (answers : List (Option CatalogueFault)) → done ++ rest ≡ all → rest ≡ [] →
    IsCounted (allowed_after_all old.state (accepted_changes done answers)) old.work now.work → IsWorkOfReplay old all (Ok answers) now
replayed-work old now all done rest answers parted e h =
    let whole : done ≡ all = sym (append-nil done) ∙ (ap (λ cs. done ++ cs) (sym e) ∙ parted) in record {
      counted = subst (λ cs. IsCounted (allowed_after_all old.state (accepted_changes cs answers)) old.work now.work) whole h;
      same = tt;
    }
