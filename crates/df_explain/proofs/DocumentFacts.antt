-- The steps of a document's views beside those that stand in its tree.
use Rattle.std.proofs.Common.{◌≡◌, ◌≤◌, ◌∙◌, ◌++◌, ℕ, zero, suc, Bool, true, false, cond, List, [], ◌∷◌, length, nat_lt, Option, Some, None, IfOk, codes, refl, subst, sym, ap, append-nil, append_assoc}
use Rattle.std.specs.Prelude.{slice_get}
use Rattle.std.specs.List.{list_all}
use Rattle.std.specs.declared.result.Result.{Result}
use Rattle.std.specs.declared.result.Result.TheVariants.{Ok, Err}
use Rattle.toml.specs.Data.{Data, string, integer, float, boolean, datetime, array, table, Members, as_table, get_member}
use Rattle.df_plan.specs.declared.plan.Plan.{Scan}
use Rattle.df_text.specs.Document.{ViewEntries, Tables, all_tables, at_most, document_of, entries_of_view, is_table, new_view_name, next_view_of, steps_alone, tables_at, top_tables_of, view_of, view_specs_of, view_table}
use Rattle.df_text.specs.Frames.{frames_of}
use Rattle.df_text.specs.Reading.{read_after}
use Rattle.df_text.specs.Sources.{array_or_none, frame_named, source_at}
use Rattle.df_text.specs.Steps.{steps_at}
use Rattle.df_text.specs.Tree.{has_only_keys, table_value, text_in, tree_of, value_at}
use Rattle.df_text.specs.declared.document.FrameSpec.{FrameSpec}
use Rattle.df_text.specs.declared.document.Location.{Location}
use Rattle.df_text.specs.declared.document.Location.TheVariants as location
use Rattle.df_text.specs.declared.document.ViewSpec.{ViewSpec}
use Rattle.df_text.specs.declared.document.Views.{Views}
use Rattle.df_text.specs.declared.fault.ViewsFault.{ViewsFault}
use Rattle.df_text.proofs.ReadFacts.{given, if_gives, then_gives}
use Rattle.df_explain.specs.ReadSteps.{AreStepsOf, AreStepsWithin, HasStepsOf}
use Rattle.df_explain.specs.Trees.{array_at, items_or_none, steps_or_none, tree_in, tree_or_none}
use Rattle.df_explain.proofs.PlaceFacts.{if_ok_then}
use Rattle.df_explain.proofs.StepFacts.{array_is, few_of_source, table_steps}

table_is : (at : Location) (d : Data) → IfOk (table_value at d) (λ ms. as_table d ≡ Some ms)
table_is at (table ms) = refl
table_is at (string s) = tt
table_is at (integer n) = tt
table_is at (float x) = tt
table_is at (boolean b) = tt
table_is at (datetime t) = tt
table_is at (array ds) = tt

few_of_view : (at : Location) (ms : Members) → IfOk (entries_of_view at ms) (λ (e : ViewEntries). length (array_at (codes "steps") ms) ≤ 64)
few_of_view at ms =
    if_gives _ (has_only_keys (codes "name" ∷ codes "from" ∷ codes "steps" ∷ []) ms) _ _
    (then_gives _ (value_at at (codes "name") ms) _ (λ n _. then_gives _ (text_in at n) _ (λ name _.
    then_gives _ (source_at at ms) _ (λ source is. given (λ s. length (array_at (codes "steps") ms) ≤ 64) (source_at at ms) source (few_of_source at ms) is))))

view_steps : (frames : List FrameSpec) (before : List ViewSpec) (d : Data)
    → IfOk (view_of frames before d) (λ (v : ViewSpec). AreStepsOf (steps_or_none (as_table d)) v.plan)
view_steps frames before d =
    let at = location.View (length before) in
    then_gives _ (table_value at d) _ (λ ms is. then_gives _ (entries_of_view at ms) _ (λ entries read.
    then_gives _ (new_view_name at entries.name before) _ (λ name _. then_gives _ (frame_named at entries.source frames) _ (λ index _.
    then_gives _ (steps_at at frames (Scan index) ms) _ (λ p steps.
    let there = given (λ m. as_table d ≡ Some m) (table_value at d) ms (table_is at d) is in
    let few = given (λ e. length (array_at (codes "steps") ms) ≤ 64) (entries_of_view at ms) entries (few_of_view at ms) read in
    rw there (given (AreStepsWithin 4 (array_at (codes "steps") ms)) (steps_at at frames (Scan index) ms) p (table_steps 3 at frames index ms few) steps))))))

-- views that were read of tables

abbrev AreBeside : List Data → List ViewSpec → Type 0
AreBeside ds views =
    (index : ℕ) → (view : ViewSpec) → slice_get views index ≡ Some view
    → (d : Data) × (slice_get ds index ≡ Some d) × AreStepsOf (steps_or_none (as_table d)) view.plan

none_beside : AreBeside [] []
none_beside zero view e = absurd (cc)
none_beside (suc index) view e = absurd (cc)

one_beside : (d : Data) (ds : List Data) (v : ViewSpec) (views : List ViewSpec) → AreStepsOf (steps_or_none (as_table d)) v.plan
    → AreBeside ds views → AreBeside (d ∷ ds) (v ∷ views)
one_beside d ds v views s h zero w e =
    let same : v ≡ w = cc in
    (d, refl, subst (λ (x : ViewSpec). AreStepsOf (steps_or_none (as_table d)) x.plan) same s)
one_beside d ds v views s h (suc index) w e = h index w e

views_beside : (frames : List FrameSpec) (done : List ViewSpec) (ds : List Data)
    → IfOk (read_after (view_of frames) done ds) (λ all. (views : List ViewSpec) × (all ≡ done ++ views) × AreBeside ds views)
views_beside frames done [] = ([], sym (append-nil done), none_beside)
views_beside frames done (d ∷ ds) =
    then_gives _ (view_of frames done d) _ (λ v is.
    let s = given (λ (v : ViewSpec). AreStepsOf (steps_or_none (as_table d)) v.plan) (view_of frames done d) v (view_steps frames done d) is in
    if_ok_then (read_after (view_of frames) (done ++ v ∷ []) ds) (views_beside frames (done ++ v ∷ []) ds)
    (λ all h. (v ∷ h.0, h.1 ∙ append_assoc done (v ∷ []) h.0, one_beside d ds v h.0 s h.2)))

-- the tables of the views

if_kept : {A : Type 0} (b : Bool) (x : A) (f : ViewsFault) (P : A → Type 0) → P x → IfOk (cond {A = Result A ViewsFault} b (Ok x) (Err f)) P
if_kept true x f P h = h
if_kept false x f P h = tt

if_not_kept : {A : Type 0} (b : Bool) (x : A) (f : ViewsFault) (P : A → Type 0) → P x → IfOk (cond {A = Result A ViewsFault} b (Err f) (Ok x)) P
if_not_kept true x f P h = tt
if_not_kept false x f P h = h

tables_are : (key : List ℕ) (ms : Members) → IfOk (tables_at key ms) (λ ds. array_at key ms ≡ ds)
tables_are key ms =
    then_gives _ (array_or_none location.Top (get_member key ms)) _ (λ ds is.
    if_kept (list_all is_table ds) ds _ (λ xs. array_at key ms ≡ xs)
    (given (λ xs. items_or_none (get_member key ms) ≡ xs) (array_or_none location.Top (get_member key ms)) ds (array_is location.Top (get_member key ms)) is))

few_are : (n : ℕ) (many : ViewsFault) (ds : List Data) → IfOk (at_most n many ds) (λ xs. ds ≡ xs)
few_are n many ds = if_not_kept (nat_lt n (length ds)) ds many (λ xs. ds ≡ xs) refl

top_views : (ms : Members) → IfOk (top_tables_of ms) (λ (t : Tables). array_at (codes "view") ms ≡ t.views)
top_views ms =
    if_gives _ (has_only_keys (codes "frame" ∷ codes "view" ∷ []) ms) _ _
    (then_gives _ (tables_at (codes "frame") ms) _ (λ frames _. then_gives _ (tables_at (codes "view") ms) _ (λ views is.
    then_gives _ (at_most _ _ frames) _ (λ few _. then_gives _ (at_most _ _ views) _ (λ some kept.
    given (λ ds. array_at (codes "view") ms ≡ ds) (tables_at (codes "view") ms) views (tables_are (codes "view") ms) is
    ∙ given (λ xs. views ≡ xs) (at_most _ _ views) some (few_are _ _ views) kept)))))

read_steps : (bytes : List ℕ) → IfOk (document_of bytes) (HasStepsOf (tree_in bytes))
read_steps bytes =
    then_gives _ (tree_of bytes) _ (λ ms tree. then_gives _ (top_tables_of ms) _ (λ tables top.
    then_gives _ (frames_of tables.frames) _ (λ frames _. then_gives _ (view_specs_of frames tables.views) _ (λ views are index view found.
    let is : tree_in bytes ≡ ms = ap tree_or_none tree in
    let there = given (λ (t : Tables). array_at (codes "view") ms ≡ t.views) (top_tables_of ms) tables (top_views ms) top in
    let h = given (λ all. (views : List ViewSpec) × (all ≡ [] ++ views) × AreBeside tables.views views)
    (read_after (view_of frames) [] tables.views) views (views_beside frames [] tables.views) are in
    let b = h.2 index view (subst (λ l. slice_get l index ≡ Some view) h.1 found) in
    rw (is, there, b.1) b.2))))

-- in a document each step of a view has the word that stands there
pub document_steps : (bytes : List ℕ) (document : Views) → document_of bytes ≡ Ok document → HasStepsOf (tree_in bytes) document
document_steps bytes document is = given (HasStepsOf (tree_in bytes)) (document_of bytes) document (read_steps bytes) is

-- and in one more view

alone_is : (text : List ℕ) → IfOk (steps_alone text) (λ ms. tree_in (codes "steps = " ++ text) ≡ ms)
alone_is text =
    then_gives _ (tree_of (codes "steps = " ++ text)) _ (λ ms is.
    if_kept (has_only_keys (codes "steps" ∷ []) ms) ms _ (λ xs. tree_in (codes "steps = " ++ text) ≡ xs) (ap tree_or_none is))

next_steps : (frames : List FrameSpec) (before : List ViewSpec) (name source text : List ℕ)
    → IfOk (next_view_of frames before name source text) (λ (v : ViewSpec). AreStepsOf (array_at (codes "steps") (tree_in (codes "steps = " ++ text))) v.plan)
next_steps frames before name source text =
    then_gives _ (steps_alone text) _ (λ ms said.
    let is = given (λ xs. tree_in (codes "steps = " ++ text) ≡ xs) (steps_alone text) ms (alone_is text) said in
    rw is (if_gives (λ (v : ViewSpec). AreStepsOf (array_at (codes "steps") ms) v.plan) (nat_lt (length before) _) (view_of frames before (view_table name source ms)) _
    (view_steps frames before (view_table name source ms))))

pub next_view_steps : (frames : List FrameSpec) (before : List ViewSpec) (name source text : List ℕ) (view : ViewSpec)
    → next_view_of frames before name source text ≡ Ok view → AreStepsOf (array_at (codes "steps") (tree_in (codes "steps = " ++ text))) view.plan
next_view_steps frames before name source text view is =
    given (λ (v : ViewSpec). AreStepsOf (array_at (codes "steps") (tree_in (codes "steps = " ++ text))) v.plan)
    (next_view_of frames before name source text) view (next_steps frames before name source text) is
