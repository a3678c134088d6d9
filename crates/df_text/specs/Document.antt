-- A view document: TOML (1.1) that names frames and views, or the first fault in the order that is stated here.
use Rattle.std.specs.Prelude.{◌≡◌, ◌≤◌, ℕ, Bool, true, false, List, [], ◌∷◌, ◌++◌, length, nat_lt, codes, Result, Ok, Err, if◌then◌else◌}
use Rattle.std.specs.List.{All, list_all}
use Rattle.toml.specs.Data.{Data, string, table, Members, member, get_member}
use Rattle.df_value.specs.Limits.{most_frames, most_views}
use Rattle.df_value.specs.Names.{AreDistinct, has_name}
use Rattle.df_value.specs.Schemas.{is_base}
use Rattle.df_plan.specs.declared.plan.Plan.TheVariants as plan
use Rattle.df_text.specs.declared.document.FrameSpec.{FrameSpec}
use Rattle.df_text.specs.declared.document.ViewSpec.{ViewSpec}
use Rattle.df_text.specs.declared.document.Views.{Views}
use Rattle.df_text.specs.declared.document.Location.{Location}
use Rattle.df_text.specs.declared.document.Location.TheVariants as location
use Rattle.df_text.specs.declared.fault.ViewsFault.{ViewsFault}
use Rattle.df_text.specs.declared.fault.ViewsFault.TheVariants as fault
use Rattle.df_value.specs.Outcomes.{then_next}
use Rattle.df_text.specs.Reading.{read_after}
use Rattle.df_text.specs.Tree.{tree_of, has_only_keys, value_at, text_in, table_value}
use Rattle.df_text.specs.Frames.{frames_of}
use Rattle.df_text.specs.Sources.{array_or_none, source_at, frame_named}
use Rattle.df_text.specs.Steps.{steps_at}
use Rattle.df_text.specs.Scans.{scans_below}

-- what stands at the keys of a view
pub record ViewEntries : Type 0 where
  pub name : List ℕ
  pub source : List ℕ

-- its name, what a table has that begins with a frame, and no other key (a fault in any of these is the same one)
abbrev pub entries_of_view : Location → Members → Result ViewEntries ViewsFault
entries_of_view at ms =
    if has_only_keys (codes "name" ∷ codes "from" ∷ codes "steps" ∷ []) ms then
    then_next (value_at at (codes "name") ms) (λ n. then_next (text_in at n) (λ name.
    then_next (source_at at ms) (λ source. Ok (record { name = name; source = source }))))
    else Err (fault.Shape at)

-- a name that none of these views has
abbrev pub new_view_name : Location → List ℕ → List ViewSpec → Result (List ℕ) ViewsFault
new_view_name at name views = if has_name (λ (v : ViewSpec). v.name) name views then Err (fault.Doubled at) else Ok name

-- a view over these frames, after the views that stand before it
abbrev pub view_of : List FrameSpec → List ViewSpec → Data → Result ViewSpec ViewsFault
view_of frames before d =
    let at = location.View (length before) in
    then_next (table_value at d) (λ ms. then_next (entries_of_view at ms) (λ entries.
    then_next (new_view_name at entries.name before) (λ name.
    then_next (frame_named at entries.source frames) (λ index.
    then_next (steps_at at frames (plan.Scan index) ms) (λ p.
    Ok (record { name = name; plan = p }))))))

-- The table of the steps that a text says, as a document has them behind `steps = `. The text says nothing else.
abbrev pub steps_alone : List ℕ → Result Members ViewsFault
steps_alone text =
    then_next (tree_of (codes "steps = " ++ text)) (λ ms. if has_only_keys (codes "steps" ∷ []) ms then Ok ms else Err fault.NotToml)

-- the table of a view, of its name, of the name at `from` and of the table of its steps
abbrev pub view_table : List ℕ → List ℕ → Members → Data
view_table name source steps = table (member (codes "name") (string name) (member (codes "from") (string source) steps))

-- one more view over these frames, as a document has it behind these views
abbrev pub next_view_of : List FrameSpec → List ViewSpec → List ℕ → List ℕ → List ℕ → Result ViewSpec ViewsFault
next_view_of frames before name source text =
    then_next (steps_alone text) (λ steps.
    if nat_lt (length before) most_views then view_of frames before (view_table name source steps) else Err fault.TooManyViews)

abbrev pub view_specs_of : List FrameSpec → List Data → Result (List ViewSpec) ViewsFault
view_specs_of frames ds = read_after (view_of frames) [] ds

abbrev pub is_table : Data → Bool
is_table (table ms) = true
is_table _ = false

abbrev pub all_tables : Location → List Data → Result (List Data) ViewsFault
all_tables at ds = if list_all is_table ds then Ok ds else Err (fault.Shape at)

-- the array of tables at a key of the top; a missing one is empty
abbrev pub tables_at : List ℕ → Members → Result (List Data) ViewsFault
tables_at key ms = then_next (array_or_none location.Top (get_member key ms)) (all_tables location.Top)

abbrev pub at_most : ℕ → ViewsFault → List Data → Result (List Data) ViewsFault
at_most n many ds = if nat_lt n (length ds) then Err many else Ok ds

-- the tables of the frames, and those of the views
pub record Tables : Type 0 where
  pub frames : List Data
  pub views : List Data

abbrev pub top_tables_of : Members → Result Tables ViewsFault
top_tables_of ms =
    if has_only_keys (codes "frame" ∷ codes "view" ∷ []) ms then
    then_next (tables_at (codes "frame") ms) (λ frames. then_next (tables_at (codes "view") ms) (λ views.
    then_next (at_most most_frames fault.TooManyFrames frames) (λ few. then_next (at_most most_views fault.TooManyViews views) (λ some.
    Ok (record { frames = few; views = some })))))
    else Err (fault.Shape location.Top)

-- what bytes say as a view document
abbrev pub document_of : List ℕ → Result Views ViewsFault
document_of bytes =
    then_next (tree_of bytes) (λ ms. then_next (top_tables_of ms) (λ tables.
    then_next (frames_of tables.frames) (λ frames. then_next (view_specs_of frames tables.views) (λ views.
    Ok (record { frames = frames; views = views })))))

-- among what every document that is read keeps to: few frames and views, no two frames and no two views of one name,
-- columns of base types, and plans that read no frame but the document's
pub record IsDocument (v : Views) : Type 0 where
  pub few_frames : length v.frames ≤ most_frames
  pub few_views : length v.views ≤ most_views
  pub frame_names : AreDistinct (λ (f : FrameSpec). f.name) [] v.frames
  pub view_names : AreDistinct (λ (w : ViewSpec). w.name) [] v.views
  pub base : All (λ (f : FrameSpec). is_base f.schema ≡ true) v.frames
  pub scans : All (λ (w : ViewSpec). scans_below (length v.frames) w.plan ≡ true) v.views
