-- What is read of pictures.
use Rattle.std.proofs.Common.{◌≡◌, ◌∙◌, ℕ, Bool, true, false, cond, List, [], ◌∷◌, zero, suc, Some, refl, ap, sym, length, subst, Result, Ok, Err, IfOk}
use Rattle.std.specs.Prelude.{Option, None, bytes_eq, find, map, ok_or, option_map, slice_get}
use Rattle.std.proofs.lemmas.Option.{slice_get-map}
use Rattle.df_value.specs.declared.cell.Cell.{Cell}
use Rattle.df_state.specs.declared.fault.CatalogueFault.TheVariants as fault
use Rattle.df_state.specs.declared.picture.PicturedView.{PicturedView}
use Rattle.df_frame.specs.declared.state.FrameState.{FrameState}
use Rattle.df_state.specs.declared.state.State.{State}
use Rattle.df_state.specs.declared.state.ViewState.{ViewState}
use Rattle.df_frame.specs.Frames.{IsFrame}
use Rattle.df_state.specs.Pictures.{AreNumberedTables, frame_len_in, frame_numbers_in, frame_rows_in, named_rows, named_rows_in, numbered_rows_in, picture_of, rows_in, value_in, view_rows_in}
use Rattle.df_state.specs.Reads.{frame_numbers_of, frame_rows_of, live_of, view_rows_of}
use Rattle.df_state.specs.States.{value_over}
use Rattle.df_column.specs.Tables.{TableParts}
use Rattle.df_plan.specs.CheckedParts.{CheckedParts}
use Rattle.df_plan.specs.Meaning.{table_of}
use Rattle.std.specs.FinMap as finite
use Rattle.df_frame.specs.FrameParts.{FrameParts, schemas_of, states_of}
use Rattle.df_frame.specs.FrameTables.{IsNumberedTable, table_parts, tagged_rows_of}
use Rattle.df_frame.proofs.FrameTableFacts.{Rows, frame-numbered, numbered-cells, numbered-table, table-tags}
use Rattle.std.specs.List.{AllZip}
use Rattle.std.specs.Option.{IfSome}

find-step : {A B : Type 0} (f : A → B) (x : A) (u : Option B) (v : Option A) (b : Bool) → u ≡ option_map f v → cond b (Some (f x)) u ≡ option_map f (cond b (Some x) v)
find-step f x u v true h = refl
find-step f x u v false h = h

find-map : {A B : Type 0} (p : B → Bool) (f : A → B) (xs : List A) → find p (map f xs) ≡ option_map f (find (λ a. p (f a)) xs)
find-map p f [] = refl
find-map p f (x ∷ xs) = find-step f x (find p (map f xs)) (find (λ a. p (f a)) xs) (p (f x)) (find-map p f xs)

option_map-map : {A B C : Type 0} (f : A → B) (g : B → C) (o : Option A) → option_map g (option_map f o) ≡ option_map (λ a. g (f a)) o
option_map-map f g None = refl
option_map-map f g (Some a) = refl

pub map-map : {A B C : Type 0} (f : A → B) (g : B → C) (xs : List A) → map g (map f xs) ≡ map (λ a. g (f a)) xs
map-map f g [] = refl
map-map f g (x ∷ xs) = ap (λ ys. g (f x) ∷ ys) (map-map f g xs)

-- the rows of the view of a name, in the tables and in what contracts see of them
pub view-rows :
    (views : List PicturedView) (name : List ℕ) →
    option_map rows_in (option_map (λ (v : PicturedView). v.table) (find (λ (v : PicturedView). bytes_eq v.name name) views))
    ≡ option_map (λ (v : List ℕ × List (List Cell)). v.1) (find (λ (v : List ℕ × List (List Cell)). bytes_eq v.0 name) (map named_rows_in views))
view-rows views name =
    let found = find (λ (v : PicturedView). bytes_eq v.name name) views in
    option_map-map (λ (v : PicturedView). v.table) rows_in found
    ∙ sym (option_map-map named_rows_in (λ v. v.1) found)
    ∙ ap (option_map (λ (v : List ℕ × List (List Cell)). v.1)) (sym (find-map (λ (v : List ℕ × List (List Cell)). bytes_eq v.0 name) named_rows_in views))

rows-at : (s : State) (f : ℕ) → slice_get (picture_of s).frames f ≡ option_map (λ (g : FrameState). g.rows) (slice_get s.frames f)
rows-at s f = slice_get-map (λ (g : FrameState). g.rows) s.frames f

-- the picture of a state has what is read of the state
pub frame-of-state : (s : State) (f : ℕ) → frame_rows_in (picture_of s) f ≡ frame_rows_of s f
frame-of-state s f =
    ap (λ (o : Option Rows). ok_or (option_map (map (λ r. r.1)) o) fault.NoFrame) (rows-at s f)
    ∙ ap (λ o. ok_or o fault.NoFrame) (option_map-map (λ (g : FrameState). g.rows) (map (λ r. r.1)) (slice_get s.frames f))

pub numbers-of-state : (s : State) (f : ℕ) → frame_numbers_in (picture_of s) f ≡ frame_numbers_of s f
numbers-of-state s f =
    ap (λ (o : Option Rows). ok_or (option_map (map (λ r. r.0)) o) fault.NoFrame) (rows-at s f)
    ∙ ap (λ o. ok_or o fault.NoFrame) (option_map-map (λ (g : FrameState). g.rows) (map (λ r. r.0)) (slice_get s.frames f))

pub len-of-state : (s : State) (f : ℕ) → frame_len_in (picture_of s) f ≡ live_of s f
len-of-state s f = ap (option_map length) (rows-at s f) ∙ option_map-map (λ (g : FrameState). g.rows) length (slice_get s.frames f)

pub value-of-state : (s : State) (p : CheckedParts) → value_in (picture_of s) p ≡ value_over s.frames p
value-of-state s p = ap (λ tables. (table_of p.plan p.frames tables).rows) (map-map (λ (g : FrameState). g.rows) (map (λ r. r.1)) s.frames)

pub view-of-state : (s : State) (name : List ℕ) → view_rows_in (picture_of s) name ≡ view_rows_of s name
view-of-state s name =
    ap (λ (o : Option (List ℕ × List (List Cell))). ok_or (option_map (λ v. v.1) o) fault.NoView) (find-map (λ (v : List ℕ × List (List Cell)). bytes_eq v.0 name) named_rows s.views)
    ∙ ap (λ o. ok_or o fault.NoView) (option_map-map named_rows (λ v. v.1) (find (λ (v : ViewState). bytes_eq v.name name) s.views))

-- the names that contracts see
pub names-seen :
    {E : Type 0} (views : List PicturedView) (seen : List (List ℕ × List (List Cell))) (r : Result (List (List ℕ)) E) → IfOk r (λ names. names ≡ map (λ (v : PicturedView). v.name) views) →
    map named_rows_in views ≡ seen → IfOk r (λ names. names ≡ map (λ (v : List ℕ × List (List Cell)). v.0) seen)
names-seen views seen (Ok names) h is = h ∙ (sym (map-map named_rows_in (λ (v : List ℕ × List (List Cell)). v.0) views) ∙ ap (map (λ (v : List ℕ × List (List Cell)). v.0)) is)
names-seen views seen (Err e) h is = h

pub frames-seen : (frames : List FrameParts) → AllZip IsFrame (schemas_of frames) (states_of frames) → map numbered_rows_in (map table_parts frames) ≡ map (λ f. f.rows) (states_of frames)
frames-seen [] h = refl
frames-seen (f ∷ fs) h = λ i. numbered-table f.state h.0.numbered i ∷ frames-seen fs h.1 i

parts-numbered : (frames : List FrameParts) → AllZip IsFrame (schemas_of frames) (states_of frames) → AreNumberedTables (map table_parts frames)
parts-numbered [] h = tt
parts-numbered (f ∷ fs) h = (frame-numbered f.state h.0.numbered (tagged_rows_of f.state) (table-tags f.state h.0.numbered (tagged_rows_of f.state) refl) (numbered-table f.state h.0.numbered), parts-numbered fs h.1)

-- the tables of sound frames have numbers
pub tables-numbered :
    (frames : List FrameParts) (tables : List TableParts) → AllZip IsFrame (schemas_of frames) (states_of frames) → tables ≡ map table_parts frames → AreNumberedTables tables
tables-numbered frames tables sound are = subst AreNumberedTables (sym are) (parts-numbered frames sound)

-- what is read of a table that a picture has
pub rows-shown : (t : TableParts) (frames : List Rows) (f : ℕ) → Some (numbered_rows_in t) ≡ slice_get frames f → option_map (map (λ r. r.1)) (slice_get frames f) ≡ Some (rows_in t)
rows-shown t frames f e = ap (option_map (map (λ r. r.1))) (sym e) ∙ ap Some (numbered-cells (finite.entries t.rows))

cells-of : (tables : List TableParts) → map rows_in tables ≡ map (map (λ r. r.1)) (map numbered_rows_in tables)
cells-of [] = refl
cells-of (t ∷ ts) = λ i. sym (numbered-cells (finite.entries t.rows)) i ∷ cells-of ts i

-- the rows of each table, where contracts see numbered rows
pub all-shown : (tables : List TableParts) (frames : List Rows) → map numbered_rows_in tables ≡ frames → map rows_in tables ≡ map (map (λ r. r.1)) frames
all-shown tables frames e = cells-of tables ∙ ap (map (map (λ r. r.1))) e

-- the table at a place has numbers
pub numbered-at : (tables : List TableParts) (f : ℕ) → AreNumberedTables tables → IfSome (slice_get tables f) (λ t. IsNumberedTable t.rows)
numbered-at [] f h = tt
numbered-at (t ∷ ts) zero h = h.0
numbered-at (t ∷ ts) (suc f) h = numbered-at ts f h.1
