-- The tables of a loaded state: those of the plans over the rows of the pieces.
use Rattle.std.proofs.Common.{◌≡◌, ℕ, zero, suc, ◌<◌, Bool, true, false, cond, ◌∙◌, List, [], ◌∷◌, length, map, refl, ap, sym, subst, arith}
use Rattle.std.specs.Prelude.{All, IsOk, Option, Some, bytes_eq, ok_or, option_map, slice_get, slice_index_or, flat_map}
use Rattle.std.specs.List.{AllByRecursion, AllZip, IsDistinct}
use Rattle.std.proofs.lemmas.Slice.Eq.{bytes_eq-Decides}
use Rattle.df_value.specs.declared.cell.Cell.{Cell}
use Rattle.df_value.specs.Pieces.{rows_of_pieces}
use Rattle.df_value.specs.Schemas.{Columns}
use Rattle.df_csv.specs.Sources as csv_sources
use Rattle.df_csv.specs.Sources.{CsvParts}
use Rattle.df_plan.specs.CheckedParts.{CheckedParts}
use Rattle.df_plan.specs.Meaning.{table_of}
use Rattle.df_print.specs.Printed.{printed}
use Rattle.df_state.specs.declared.fault.CatalogueFault.TheVariants as catalogue_fault
use Rattle.df_frame.specs.declared.state.FrameState.{FrameState}
use Rattle.df_state.specs.declared.state.State.{State}
use Rattle.df_state.specs.declared.state.ViewState.{ViewState}
use Rattle.df_frame.specs.Frames.{IsFrame, IsNumbered, rows_of}
use Rattle.df_state.specs.Reads.{view_named, view_rows_of}
use Rattle.df_state.specs.States.{IsLegal, IsPlanOver, tables_of_frames, value_over}
use Rattle.df_jobs.specs.Loaded.{AreLoaded, IsLoaded, job_rows, made_rows}
use Rattle.df_store.specs.Headings.{headings_of}
use Rattle.df_text.specs.declared.document.ViewSpec.{ViewSpec}
use Rattle.df_document.specs.Sources.{pieces_of_sources}
use Rattle.df_app.specs.Loading.{headings_in, jobs_of_sources, printed_in, rows_or_none}
use Rattle.df_document.specs.Refused.{paired}
use Rattle.df_app.specs.Output.{printed_view}
use Rattle.df_app.proofs.RisingRows.{Rise, frame-rises, ordered}
use Rattle.df_app.proofs.SourceRows.{cells-of-pieces, source-rises, source-rows}

-- the rows of a loaded frame are those of the pieces of its source
frame-is : (sources : List CsvParts) (i : ℕ) (s : CsvParts) (f : FrameState) → slice_get sources i ≡ Some s → IsNumbered f → IsLoaded i (jobs_of_sources sources) f.rows →
    rows_of f ≡ rows_of_pieces (csv_sources.chunks_of s)
frame-is sources i s f h numbered loaded =
    let given = flat_map (job_rows i) (jobs_of_sources sources) in
    let is : given ≡ flat_map made_rows (csv_sources.chunks_of s) = source-rows sources i s h in
    let first : Rise given = subst Rise (sym is) (source-rises s) in
    let second : Rise (flat_map (job_rows i) loaded.order) = subst Rise loaded.is (frame-rises f numbered) in
    let same : f.rows ≡ flat_map made_rows (csv_sources.chunks_of s) =
    loaded.is ∙ (ordered (job_rows i) (jobs_of_sources sources) loaded.order loaded.same first second ∙ is) in
    ap (map (λ (r : ℕ × List Cell). r.1)) same ∙ cells-of-pieces (csv_sources.chunks_of s)

frames-are : (schemas : List Columns) (frames : List FrameState) (sources : List CsvParts) → AllZip IsFrame schemas frames → length schemas ≡ length sources →
    ((i : ℕ) (s : CsvParts) (f : FrameState) → slice_get sources i ≡ Some s → slice_get frames i ≡ Some f → IsNumbered f → rows_of f ≡ rows_of_pieces (csv_sources.chunks_of s)) →
    map rows_of frames ≡ map rows_of_pieces (pieces_of_sources sources)
frames-are [] [] [] sound long each = refl
frames-are [] [] (s ∷ ss) sound long each = absurd (omega (arith, long))
frames-are [] (f ∷ fs) sources sound long each = absurd sound
frames-are (c ∷ cs) [] sources sound long each = absurd sound
frames-are (c ∷ cs) (f ∷ fs) [] sound long each = absurd (omega (arith, long))
frames-are (c ∷ cs) (f ∷ fs) (s ∷ ss) sound long each =
    ap (λ x. x ∷ map rows_of fs) (each zero s f refl refl sound.0.numbered)
    ∙ ap (λ xs. rows_of_pieces (csv_sources.chunks_of s) ∷ xs)
    (frames-are cs fs ss sound.1 (omega (arith, long)) (λ i t g h k n. each (suc i) t g h k n))

-- the tables of the frames of a loaded state are the rows of the pieces
pub tables-are : (s : State) (sources : List CsvParts) → IsLegal s → AreLoaded (jobs_of_sources sources) s → length s.schemas ≡ length sources →
    tables_of_frames s.frames ≡ map rows_of_pieces (pieces_of_sources sources)
tables-are s sources legal loaded long =
    frames-are s.schemas s.frames sources legal.frames long (λ i c f h k numbered. frame-is sources i c f h numbered (loaded i f k))

bytes-same : (xs : List ℕ) → bytes_eq xs xs ≡ true
bytes-same xs = (bytes_eq-Decides xs xs).1 refl

others-differ : (name : List ℕ) (ws : List ViewState) (i : ℕ) (v : ViewState) → AllByRecursion (λ y. bytes_eq name y ≡ false) (map (λ w. w.name) ws) →
    slice_get ws i ≡ Some v → bytes_eq name v.name ≡ false
others-differ name [] i v all h = absurd (cc)
others-differ name (w ∷ ws) zero v all h =
    let same : w ≡ v = cc in
    subst (λ (x : ViewState). bytes_eq name x.name ≡ false) same all.0
others-differ name (w ∷ ws) (suc i) v all h = others-differ name ws i v all.1 h

-- a view is found under its name
view-found : (views : List ViewState) (i : ℕ) (v : ViewState) → IsDistinct bytes_eq (map (λ w. w.name) views) → slice_get views i ≡ Some v → view_named v.name views ≡ Some v
unfolding IsDistinct
view-found [] i v distinct h = absurd (cc)
view-found (w ∷ ws) zero v distinct h =
    let same : w ≡ v = cc in
    let here : bytes_eq w.name v.name ≡ true = subst (λ (x : ViewState). bytes_eq w.name x.name ≡ true) same (bytes-same w.name) in
    ap (λ (b : Bool). cond b (Some w) (view_named v.name ws)) here ∙ ap Some same
view-found (w ∷ ws) (suc i) v distinct h =
    ap (λ (b : Bool). cond b (Some w) (view_named v.name ws)) (others-differ w.name ws i v distinct.0 h) ∙ view-found ws i v distinct.1 h

view-there : (s : State) (i : ℕ) (v : ViewState) → IsLegal s → slice_get s.views i ≡ Some v → IsOk (view_rows_of s v.name)
view-there s i v legal h =
    let found = view-found s.views i v legal.names h in
    subst (λ (o : Option ViewState). IsOk (ok_or (option_map (λ w. w.table) o) catalogue_fault.NoView)) (sym found) refl

abbrev heading : ViewState → List ℕ × CheckedParts
heading v = (v.name, v.plan)

there-at : (s : State) (ws : List ViewState) (k : ℕ) (d : List ℕ × CheckedParts) → ((i : ℕ) (v : ViewState) → slice_get ws i ≡ Some v → IsOk (view_rows_of s v.name)) →
    k < length (map heading ws) → IsOk (view_rows_of s (slice_index_or (map heading ws) k d).0)
there-at s [] k d each lt = absurd (omega (arith, lt))
there-at s (w ∷ ws) zero d each lt = each zero w refl
there-at s (w ∷ ws) (suc k) d each lt = there-at s ws k d (λ i v h. each (suc i) v h) (omega (arith, lt))

-- each view of a loaded state is there under its name
pub views-there : (s : State) (views : List (List ℕ × CheckedParts)) → IsLegal s → headings_of s ≡ views → All (λ h. IsOk (view_rows_of s h.0)) views
views-there s views legal e =
    subst (λ (hs : List (List ℕ × CheckedParts)). All (λ h. IsOk (view_rows_of s h.0)) hs) e
    (λ k d lt. there-at s s.views k d (λ i v h. view-there s i v legal h) lt)

same-at : {X Y : Type 0} (f g : X → Y) (xs : List X) (i : ℕ) (x : X) → map f xs ≡ map g xs → slice_get xs i ≡ Some x → f x ≡ g x
same-at f g [] i x e h = absurd (cc)
same-at f g (y ∷ ys) zero x e h =
    let heads : f y ≡ g y = cc in
    let same : y ≡ x = cc in
    subst (λ z. f z ≡ g z) same heads
same-at f g (y ∷ ys) (suc i) x e h =
    let tails : map f ys ≡ map g ys = cc in
    same-at f g ys i x tails h

-- the printed table of a view's plan over the frames of a state
abbrev pub printed_value : List (List (List Cell)) → List ℕ × CheckedParts → List ℕ
printed_value frames h = printed h.0 h.1.schema (table_of h.1.plan h.1.frames frames).rows

view-printed : (s : State) (i : ℕ) (v : ViewState) → IsLegal s → slice_get s.views i ≡ Some v →
    printed_in s (v.name, v.plan) ≡ printed_value (tables_of_frames s.frames) (v.name, v.plan)
view-printed s i v legal h =
    let found = view-found s.views i v legal.names h in
    let is : v.table ≡ value_over s.frames v.plan = same-at (λ (w : ViewState). w.table) (λ (w : ViewState). value_over s.frames w.plan) s.views i v legal.tables h in
    ap (λ (o : Option ViewState). printed v.name v.plan.schema (rows_or_none (ok_or (option_map (λ w. w.table) o) catalogue_fault.NoView))) found
    ∙ ap (printed v.name v.plan.schema) is

all-printed : (s : State) (ws : List ViewState) →
    ((i : ℕ) (v : ViewState) → slice_get ws i ≡ Some v → printed_in s (v.name, v.plan) ≡ printed_value (tables_of_frames s.frames) (v.name, v.plan)) →
    map (printed_in s) (map (λ v. (v.name, v.plan)) ws) ≡ map (printed_value (tables_of_frames s.frames)) (map (λ v. (v.name, v.plan)) ws)
all-printed s [] each = refl
all-printed s (w ∷ ws) each =
    ap (λ x. x ∷ map (printed_in s) (map (λ v. (v.name, v.plan)) ws)) (each zero w refl)
    ∙ ap (λ xs. printed_value (tables_of_frames s.frames) (w.name, w.plan) ∷ xs) (all-printed s ws (λ i v h. each (suc i) v h))

-- the printed tables of a legal state are those of the plans over its frames
headings-printed : (s : State) → IsLegal s → map (printed_in s) (headings_of s) ≡ map (printed_value (tables_of_frames s.frames)) (headings_of s)
headings-printed s legal = all-printed s s.views (λ i v h. view-printed s i v legal h)

first-plan : (schemas : List Columns) (ws : List ViewState) (h : List ℕ × CheckedParts) (hs : List (List ℕ × CheckedParts)) →
    map (λ v. (v.name, v.plan)) ws ≡ h ∷ hs → AllByRecursion (λ v. IsPlanOver schemas v.plan) ws → h.1.frames ≡ schemas
first-plan schemas [] h hs e all = absurd (cc)
first-plan schemas (w ∷ ws) h hs e all =
    let same : (w.name, w.plan) ≡ h = cc in
    ap (λ (x : List ℕ × CheckedParts). x.1.frames) (sym same) ∙ all.0.frames

printed-pairs : (frames : List (List (List Cell))) (ps : List (ViewSpec × CheckedParts)) → map (printed_value frames) (map (λ v. (v.0.name, v.1)) ps) ≡ map (printed_view frames) ps
printed-pairs frames [] = refl
printed-pairs frames (p ∷ ps) = ap (λ xs. printed_view frames p ∷ xs) (printed-pairs frames ps)

-- the printed tables of a loaded state are those of the document
pub views-are : (s : State) (sources : List CsvParts) (schemas : List Columns) (views : List ViewSpec) (plans : List CheckedParts) → IsLegal s → AreLoaded (jobs_of_sources sources) s →
    headings_of s ≡ headings_in views plans → AllByRecursion (λ p. p.frames ≡ schemas) plans → length schemas ≡ length sources →
    map (printed_in s) (headings_in views plans) ≡ map (printed_view (map rows_of_pieces (pieces_of_sources sources))) (paired views plans)
views-are s sources schemas [] plans legal loaded e over long = refl
views-are s sources schemas (v ∷ vs) [] legal loaded e over long = refl
views-are s sources schemas (v ∷ vs) (p ∷ ps) legal loaded e over long =
    let hs = headings_in (v ∷ vs) (p ∷ ps) in
    let same : s.schemas ≡ schemas = sym (first-plan s.schemas s.views (v.name, p) (headings_in vs ps) e legal.plans) ∙ over.0 in
    let few : length s.schemas ≡ length sources = ap length same ∙ long in
    let tables = tables-are s sources legal loaded few in
    ap (map (printed_in s)) (sym e) ∙ (headings-printed s legal
    ∙ (ap (map (printed_value (tables_of_frames s.frames))) e
    ∙ (ap (λ (frames : List (List (List Cell))). map (printed_value frames) hs) tables
    ∙ printed-pairs (map rows_of_pieces (pieces_of_sources sources)) (paired (v ∷ vs) (p ∷ ps)))))
