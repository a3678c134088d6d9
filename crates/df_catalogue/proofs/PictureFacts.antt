-- The tables of a catalogue's frames and views have the picture of its state.
use Rattle.std.proofs.Common.{◌≡◌, ◌∙◌, ℕ, ◌+◌, ◌<◌, List, [], ◌∷◌, ◌++◌, ap, sym, length, get_or, take}
use Rattle.std.proofs.lemmas.List.{map-append}
use Rattle.std.specs.Prelude.{map}
use Rattle.df_state.specs.declared.picture.PicturedView.{PicturedView}
use Rattle.df_frame.specs.Frames.{IsFrame}
use Rattle.df_catalogue.specs.LiveViews.{view_state}
use Rattle.df_state.specs.Pictures.{PictureParts, named_rows, named_rows_in, numbered_rows_in, picture_of, rows_in}
use Rattle.df_catalogue.specs.declared.views.View.{View}
use Rattle.df_column.specs.Tables.{TableParts}
use Rattle.df_frame.specs.FrameParts.{FrameParts, schemas_of, states_of}
use Rattle.df_frame.specs.FrameTables.{table_parts}
use Rattle.df_catalogue.specs.Parts.{state_of}
use Rattle.df_state.proofs.Loops.{mapped-more}
use Rattle.std.specs.List.{AllZip}
use Rattle.df_state.proofs.PictureFacts.{map-map, frames-seen}

-- one view more of which there is a picture
pub pictured-more :
    (views : List View) (i : ℕ) (v : View) (out new : List PicturedView) (p : PicturedView) → i < length views → v ≡ get_or views i v →
    map named_rows_in out ≡ map (λ v. named_rows (view_state v)) (take i views) → new ≡ out ++ p ∷ [] → p.name ≡ v.name → p.table ≡ v.live.table →
    map named_rows_in new ≡ map (λ v. named_rows (view_state v)) (take (i + 1) views)
pictured-more views i v out new p within at before pushed name table =
    mapped-more views i v (λ v. named_rows (view_state v)) (map named_rows_in out) (map named_rows_in new) (named_rows_in p) within at before
    (ap (map named_rows_in) pushed ∙ map-append named_rows_in out (p ∷ []))
    (λ k. (name k, rows_in (table k)))

-- the tables of frames and views have the picture of their state
pub state-seen :
    (frames lent : List FrameParts) (views shown : List View) (tables : List TableParts) (p : PictureParts) → AllZip IsFrame (schemas_of frames) (states_of frames) →
    lent ≡ frames → shown ≡ views → tables ≡ map table_parts lent → p.frames ≡ map numbered_rows_in tables → p.views ≡ map (λ v. named_rows (view_state v)) shown →
    p ≡ picture_of (state_of (schemas_of frames) (states_of frames) views)
state-seen frames lent views shown tables p sound same same_views are of_frames of_views =
    let here : p.frames ≡ map (λ f. f.rows) (states_of frames) = of_frames ∙ (ap (map numbered_rows_in) (are ∙ ap (map table_parts) same) ∙ frames-seen frames sound) in
    let there : p.views ≡ map named_rows (map view_state views) = of_views ∙ (ap (map (λ v. named_rows (view_state v))) same_views ∙ sym (map-map view_state named_rows views)) in
    λ i. record { frames = here i; views = there i }
