-- Views that stand over a catalogue's frames have the values of their plans as tables.
use Rattle.std.proofs.Common.{◌≡◌, ℕ, ◌<◌, zero, suc, Bool, true, false, cond, ◌∙◌, List, [], ◌∷◌, length, map, refl, ap, sym, subst, arith}
use Rattle.std.specs.Prelude.{IsTrue, ◌&&◌, Option, Some, slice_get, slice_index_or, slice_set}
use Rattle.std.specs.FinMap as finite
use Rattle.std.specs.Option.{IfSome}
use Rattle.std.specs.List.{AllByRecursion, AllZip}
use Rattle.std.proofs.lemmas.List.{length-map}
use Rattle.df_value.specs.declared.cell.Cell.{Cell}
use Rattle.df_value.specs.declared.cell.CellType.{CellType}
use Rattle.df_value.specs.Rows.{rows_fit}
use Rattle.df_column.specs.Changes.{applied}
use Rattle.df_column.specs.Tables.{TaggedRows}
use Rattle.df_column.specs.declared.tag.Tag.{Tag}
use Rattle.df_delta.specs.Deltas.{Changes}
use Rattle.df_delta.specs.Differences.{Fits, IsDiff}
use Rattle.df_join.specs.Spread.{HasKeys, IsTagOver}
use Rattle.df_plan.specs.CheckedParts.{CheckedParts}
use Rattle.df_plan.specs.Meaning.{frames_fit, table_of}
use Rattle.df_live.specs.Frames.{AreFrames, changed, frame_at, rows_of_frames}
use Rattle.df_live.specs.Views.{IsChangeOf, IsLive}
use Rattle.df_frame.specs.declared.state.FrameState.{FrameState}
use Rattle.df_catalogue.specs.declared.views.View.{View}
use Rattle.df_state.specs.Changes.{refreshed_views, view_over}
use Rattle.df_frame.specs.Frames.{rows_of, IsFrame, IsNumbered, empty_frame}
use Rattle.df_frame.specs.FrameParts.{FrameParts, schemas_of, states_of}
use Rattle.df_frame.specs.FrameTables.{table_parts, tagged_rows_of, row_tag}
use Rattle.df_catalogue.specs.LiveViews.{headings, tagged_frames, view_state, AreChangesOf, AreLive}
use Rattle.df_state.specs.States.{tables_of_frames, IsPlanOver}
use Rattle.df_frame.proofs.FrameFacts.{empty-sound}
use Rattle.df_frame.proofs.FrameTableFacts.{empty-table, numbered-cells, numbered-table, table-at}
use Rattle.df_frame.proofs.RowLookups.{found}
use Rattle.df_frame.proofs.TagFacts.{is_tag, tag-is}

abbrev Columns : Type 0
Columns = List (List ℕ × CellType)

-- ---- the frames as a plan scans them

pub tagged-values : (f : FrameState) → IsNumbered f → finite.values (tagged_rows_of f) ≡ rows_of f
tagged-values f h = sym (numbered-cells (finite.entries (tagged_rows_of f))) ∙ ap (map (λ (r : ℕ × List Cell). r.1)) (numbered-table f h)

pub frames-rows :
    (schemas : List Columns) (frames : List FrameState) → AllZip IsFrame schemas frames → rows_of_frames (tagged_frames frames) ≡ tables_of_frames frames
frames-rows [] [] h = refl
frames-rows [] (f ∷ fs) h = absurd h
frames-rows (s ∷ ss) [] h = absurd h
frames-rows (s ∷ ss) (f ∷ fs) h = λ i. tagged-values f h.0.numbered i ∷ frames-rows ss fs h.1 i

both-true : (a b : Bool) → IsTrue a → IsTrue b → IsTrue (a && b)
both-true true b h k = k
both-true false b h k = absurd (cc (h))

frames-fit : (schemas : List Columns) (frames : List FrameState) → AllZip IsFrame schemas frames → IsTrue (frames_fit schemas (tables_of_frames frames))
frames-fit [] [] h = refl
frames-fit [] (f ∷ fs) h = absurd h
frames-fit (s ∷ ss) [] h = absurd h
frames-fit (s ∷ ss) (f ∷ fs) h = both-true (rows_fit s (rows_of f)) (frames_fit ss (tables_of_frames fs)) h.0.fitting (frames-fit ss fs h.1)

of-one-scan : (n : ℕ) → IsTagOver 1 (row_tag n)
of-one-scan n = record {
  begins = omega arith;
  ends = record { first = λ h. absurd (omega (arith, h)); second = λ h. refl; third = λ h. refl };
}

found-cond :
    (q : Tag) (n : ℕ) (b : Bool) (row : List Cell) (later : Option (List Cell)) → is_tag q n ≡ b → IfSome later (λ _. IsTagOver 1 q) →
    IfSome (cond b (Some row) later) (λ _. IsTagOver 1 q)
found-cond q n true row later e h = subst (IsTagOver 1) (sym (tag-is q n e)) (of-one-scan n)
found-cond q n false row later e h = h

found-tag : (q : Tag) (rows : List (ℕ × List Cell)) → IfSome (found q rows) (λ _. IsTagOver 1 q)
found-tag q [] = tt
found-tag q (r ∷ rs) = found-cond q r.0 (is_tag q r.0) r.1 (found q rs) refl (found-tag q rs)

frame-tags : (f : FrameState) → IsNumbered f → HasKeys (IsTagOver 1) (tagged_rows_of f)
frame-tags f h = record { at = λ q. subst (λ o. IfSome o (λ _. IsTagOver 1 q)) (sym (table-at f h q)) (found-tag q f.rows) }

no-tags : HasKeys (IsTagOver 1) (frame_at [] 0)
no-tags = subst (HasKeys (IsTagOver 1)) (sym empty-table) (frame-tags empty_frame (empty-sound []).numbered)

frames-tags : (schemas : List Columns) (frames : List FrameState) → AllZip IsFrame schemas frames → (f : ℕ) → HasKeys (IsTagOver 1) (frame_at (tagged_frames frames) f)
frames-tags [] [] h f = no-tags
frames-tags [] (x ∷ xs) h f = absurd h
frames-tags (s ∷ ss) [] h f = absurd h
frames-tags (s ∷ ss) (x ∷ xs) h zero = frame-tags x h.0.numbered
frames-tags (s ∷ ss) (x ∷ xs) h (suc f) = frames-tags ss xs h.1 f

pub are-frames : (schemas : List Columns) (frames : List FrameState) → AllZip IsFrame schemas frames → AreFrames schemas (tagged_frames frames)
are-frames schemas frames h = record {
  fit = subst (λ rows. IsTrue (frames_fit schemas rows)) (sym (frames-rows schemas frames h)) (frames-fit schemas frames h);
  tags = frames-tags schemas frames h;
}

-- ---- the views over them

pub view-live :
    (schemas : List Columns) (frames : List FrameState) (v : View) → AllZip IsFrame schemas frames → IsPlanOver schemas v.live.plan → IsLive v.live (tagged_frames frames) →
    view_state v ≡ view_over frames v.name v.live.plan
view-live schemas frames v sound plan h =
    let rows : finite.values v.live.table.rows ≡ (table_of v.live.plan.plan v.live.plan.frames (rows_of_frames (tagged_frames frames))).rows = h.rows in
    ap (λ t. record { name = v.name; plan = v.live.plan; table = t })
    (rows ∙ ap (λ ts. (table_of v.live.plan.plan v.live.plan.frames ts).rows) (frames-rows schemas frames sound))

live-first : (v : View) (vs : List View) (frames : List TaggedRows) → AreLive (v ∷ vs) frames → IsLive v.live frames
live-first v vs frames h = h.at 0 v (omega arith)

live-others : (v : View) (vs : List View) (frames : List TaggedRows) → AreLive (v ∷ vs) frames → AreLive vs frames
live-others v vs frames h = record { at = λ k d below. h.at (suc k) d (omega (arith, below)) }

-- views that stand over the frames have the values of their plans as tables
pub views-live :
    (schemas : List Columns) (frames : List FrameState) (vs : List View) → AllZip IsFrame schemas frames →
    AllByRecursion (λ h. IsPlanOver schemas h.1) (headings vs) → AreLive vs (tagged_frames frames) →
    map view_state vs ≡ map (λ h. view_over frames h.0 h.1) (headings vs)
views-live schemas frames [] sound plans h = refl
views-live schemas frames (v ∷ vs) sound plans h =
    λ i. view-live schemas frames v sound plans.0 (live-first v vs (tagged_frames frames) h) i
    ∷ views-live schemas frames vs sound plans.1 (live-others v vs (tagged_frames frames) h) i

-- views that are taken anew
pub refreshed-headings : (frames : List FrameState) (vs : List View) → refreshed_views frames (map view_state vs) ≡ map (λ h. view_over frames h.0 h.1) (headings vs)
refreshed-headings frames [] = refl
refreshed-headings frames (v ∷ vs) = ap (λ ws. view_over frames v.name v.live.plan ∷ ws) (refreshed-headings frames vs)

pub headings-plans : (P : CheckedParts → Type 0) (vs : List View) → AllByRecursion (λ v. P v.plan) (map view_state vs) → AllByRecursion (λ h. P h.1) (headings vs)
headings-plans P [] h = tt
headings-plans P (v ∷ vs) h = (h.0, headings-plans P vs h.1)

-- ---- a change of one frame

pub tagged-changed :
    (frames : List FrameState) (f : ℕ) (x y : FrameState) (d : Changes) → slice_get frames f ≡ Some x → IsDiff (tagged_rows_of x) (tagged_rows_of y) d →
    changed (tagged_frames frames) f d ≡ tagged_frames (slice_set frames f y)
tagged-changed [] f x y d at h = cc
tagged-changed (z ∷ zs) zero x y d at h =
    let same : z ≡ x = cc in
    ap (λ t. t ∷ tagged_frames zs) (ap (λ w. applied (tagged_rows_of w) d) same ∙ h.gives)
tagged-changed (z ∷ zs) (suc f) x y d at h = ap (λ ts. tagged_rows_of z ∷ ts) (tagged-changed zs f x y d at h)

tagged-at : (frames : List FrameState) (f : ℕ) (x : FrameState) → slice_get frames f ≡ Some x → frame_at (tagged_frames frames) f ≡ tagged_rows_of x
tagged-at [] f x at = cc
tagged-at (z ∷ zs) zero x at = let same : z ≡ x = cc in ap tagged_rows_of same
tagged-at (z ∷ zs) (suc f) x at = tagged-at zs f x at

pub is-change :
    (schemas : List Columns) (frames : List FrameState) (f : ℕ) (x y : FrameState) (d : Changes) → AllZip IsFrame schemas frames →
    AllZip IsFrame schemas (slice_set frames f y) → f < length frames → slice_get frames f ≡ Some x → IsDiff (tagged_rows_of x) (tagged_rows_of y) d →
    IsChangeOf schemas (tagged_frames frames) f d
is-change schemas frames f x y d sound after within at h =
    let long = length-map frames tagged_rows_of in record {
      within = omega (arith, long, within);
      lean = h.lean;
      fits = subst (λ t. Fits t d) (sym (tagged-at frames f x at)) h.fits;
      before = are-frames schemas frames sound;
      after = subst (AreFrames schemas) (sym (tagged-changed frames f x y d at h)) (are-frames schemas (slice_set frames f y) after);
    }

pub are-changes :
    (schemas : List Columns) (vs : List View) (frames : List TaggedRows) (f : ℕ) (d : Changes) → AllByRecursion (λ h. IsPlanOver schemas h.1) (headings vs) →
    IsChangeOf schemas frames f d → AreChangesOf vs frames f d
are-changes schemas [] frames f d plans h = record { at = λ k e below. absurd (omega (arith, below)) }
are-changes schemas (v ∷ vs) frames f d plans h =
    let later = are-changes schemas vs frames f d plans.1 h in
    record { at = are-changes-at schemas v vs frames f d plans.0 h later }
  where
    are-changes-at :
        (schemas : List Columns) (v : View) (vs : List View) (frames : List TaggedRows) (f : ℕ) (d : Changes) → IsPlanOver schemas v.live.plan →
        IsChangeOf schemas frames f d → AreChangesOf vs frames f d → (k : ℕ) (e : View) → k < length (v ∷ vs) →
        IsChangeOf (slice_index_or (v ∷ vs) k e).live.plan.frames frames f d
    are-changes-at schemas v vs frames f d plan h later zero e below = subst (λ ss. IsChangeOf ss frames f d) (sym plan.frames) h
    are-changes-at schemas v vs frames f d plan h later (suc k) e below = later.at k e (omega (arith, below))

-- ---- the frames' tables

pub tables-schemas : (frames : List FrameParts) → map (λ t. t.schema) (map table_parts frames) ≡ schemas_of frames
tables-schemas [] = refl
tables-schemas (f ∷ fs) = ap (λ ss. f.schema ∷ ss) (tables-schemas fs)

pub tables-rows : (frames : List FrameParts) → map (λ t. t.rows) (map table_parts frames) ≡ tagged_frames (states_of frames)
tables-rows [] = refl
tables-rows (f ∷ fs) = ap (λ ts. tagged_rows_of f.state ∷ ts) (tables-rows fs)
