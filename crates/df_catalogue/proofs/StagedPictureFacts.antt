-- Pictures of what is staged.
use Rattle.std.proofs.Common.{◌≡◌, ◌∙◌, ℕ, ◌+◌, ◌<◌, List, [], ◌∷◌, ◌++◌, zero, suc, refl, ap, sym, map, length, get_or, take, subst}
use Rattle.std.specs.Prelude.{remove, slice_set, slice_index_or}
use Rattle.std.proofs.lemmas.List.{map-append, map-set}
use Rattle.df_column.specs.Tables.{TableParts, TaggedRows}
use Rattle.df_live.specs.Frames.{rows_of_frames}
use Rattle.df_live.specs.Views.{LeadsTo}
use Rattle.df_live.specs.declared.view.StagedView.{StagedView}
use Rattle.df_plan.specs.Meaning.{table_of}
use Rattle.df_state.specs.declared.picture.PicturedView.{PicturedView}
use Rattle.df_catalogue.specs.declared.staging.StagedFrame.{StagedFrame}
use Rattle.df_frame.specs.declared.state.FrameState.{FrameState}
use Rattle.df_catalogue.specs.declared.views.View.{View}
use Rattle.df_state.specs.Changes.{refreshed_views}
use Rattle.df_frame.specs.FrameParts.{FrameParts, schemas_of, states_of}
use Rattle.df_frame.specs.FrameTables.{table_parts}
use Rattle.df_frame.specs.Frames.{rows_of}
use Rattle.df_catalogue.specs.LiveViews.{tagged_frames, view_state, AreStaged, planned_rows}
use Rattle.df_state.specs.Pictures.{AreNumberedTables, PictureParts, named_rows, named_rows_in, numbered_rows_in, picture_of, rows_in}
use Rattle.df_catalogue.specs.Staging.{frames_with, state_with_rows, IsStagedFrame}
use Rattle.df_catalogue.proofs.LiveFacts.{frames-rows}
use Rattle.df_state.proofs.Loops.{mapped-more}
use Rattle.df_state.proofs.PictureFacts.{frames-seen, tables-numbered}

-- one view more, with what was staged for it
pub staged-more :
    (frames : List TaggedRows) (views : List View) (staged : List StagedView) (i : ℕ) (v : View) (s : StagedView) (out new : List PicturedView) (p : PicturedView) →
    i < length views → length staged ≡ length views → v ≡ get_or views i v → s ≡ get_or staged i s → AreStaged views staged frames →
    map named_rows_in out ≡ map (planned_rows frames) (take i views) → new ≡ out ++ p ∷ [] → p.name ≡ v.name → p.table ≡ s.table →
    map named_rows_in new ≡ map (planned_rows frames) (take (i + 1) views)
staged-more frames views staged i v s out new p within same at staged-at leads before pushed name table =
    let led : LeadsTo (slice_index_or views i v).live (slice_index_or staged i s) frames = leads.at i v s (subst (λ n. i < n) (sym same) within) in
    let led' : LeadsTo v.live s frames = subst (λ w. LeadsTo w.live s frames) (sym at) (subst (λ t. LeadsTo (slice_index_or views i v).live t frames) (sym staged-at) led) in
    mapped-more views i v (planned_rows frames) (map named_rows_in out) (map named_rows_in new) (named_rows_in p) within at before
    (ap (map named_rows_in) pushed ∙ map-append named_rows_in out (p ∷ []))
    ((λ k. (name k, rows_in (table k))) ∙ ap (λ rows. (v.name, rows)) led'.rows)

-- views that are taken anew over frames have their plans' rows
pub planned-views :
    (frames : List FrameState) (views : List View) → rows_of_frames (tagged_frames frames) ≡ map rows_of frames →
    map (planned_rows (tagged_frames frames)) views ≡ map named_rows (refreshed_views frames (map view_state views))
planned-views frames [] same = refl
planned-views frames (v ∷ vs) same = λ i. (v.name, (table_of v.live.plan.plan v.live.plan.frames (same i)).rows) ∷ planned-views frames vs same i

-- the tables with the changed one, and the views with what was staged for them, have the picture of the state with the rows
pub rows-pictured :
    (frames : List FrameParts) (views : List View) (r : StagedFrame) (tables : List TableParts) (p : PictureParts) → IsStagedFrame frames views r →
    tables ≡ slice_set (map table_parts frames) r.frame (table_parts r.changed) → p.frames ≡ map numbered_rows_in tables →
    p.views ≡ map (planned_rows (tagged_frames (states_of (frames_with frames r)))) views →
    p ≡ picture_of (state_with_rows frames views r)
rows-pictured frames views r tables p sound set of_frames of_views =
    let new : List FrameParts = frames_with frames r in
    let here : p.frames ≡ map (λ f. f.rows) (states_of new) =
    of_frames ∙ (ap (map numbered_rows_in) (set ∙ sym (map-set table_parts frames r.frame r.changed)) ∙ frames-seen new sound.legal.frames) in
    let there : p.views ≡ map named_rows (refreshed_views (states_of new) (map view_state views)) =
    of_views ∙ planned-views (states_of new) views (frames-rows (schemas_of new) (states_of new) sound.legal.frames) in
    λ i. record { frames = here i; views = there i }

-- the changed table and the others have numbers
pub rows-numbered :
    (frames : List FrameParts) (views : List View) (r : StagedFrame) (tables : List TableParts) → IsStagedFrame frames views r →
    tables ≡ slice_set (map table_parts frames) r.frame (table_parts r.changed) → AreNumberedTables tables
rows-numbered frames views r tables sound set =
    tables-numbered (frames_with frames r) tables sound.legal.frames (set ∙ sym (map-set table_parts frames r.frame r.changed))

-- one view more, and one less
pub pictured-last :
    (views : List View) (v : View) (out new : List PicturedView) (p : PicturedView) → map named_rows_in out ≡ map (λ v. named_rows (view_state v)) views →
    new ≡ out ++ p ∷ [] → p.name ≡ v.name → p.table ≡ v.live.table →
    map named_rows_in new ≡ map (λ v. named_rows (view_state v)) (views ++ v ∷ [])
pictured-last views v out new p before pushed name table =
    ap (map named_rows_in) pushed
    ∙ (map-append named_rows_in out (p ∷ [])
    ∙ ((λ k. before k ++ (name k, rows_in (table k)) ∷ []) ∙ sym (map-append (λ v. named_rows (view_state v)) views (v ∷ []))))

map-removed : {A B : Type 0} (f : A → B) (xs : List A) (i : ℕ) → map f (remove xs i) ≡ remove (map f xs) i
map-removed f [] zero = refl
map-removed f [] (suc i) = refl
map-removed f (x ∷ xs) zero = refl
map-removed f (x ∷ xs) (suc i) = ap (λ ys. f x ∷ ys) (map-removed f xs i)

pub pictured-less :
    (views : List View) (at : ℕ) (out new : List PicturedView) → map named_rows_in out ≡ map (λ v. named_rows (view_state v)) views → new ≡ remove out at →
    map named_rows_in new ≡ map (λ v. named_rows (view_state v)) (remove views at)
pictured-less views at out new before removed =
    ap (map named_rows_in) removed
    ∙ (map-removed named_rows_in out at ∙ (ap (λ ps. remove ps at) before ∙ sym (map-removed (λ (v : View). named_rows (view_state v)) views at)))
