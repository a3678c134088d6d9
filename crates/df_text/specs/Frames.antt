-- The frames of a view document: each has the keys `name`, a text, and `columns`, an array of columns, each an array of
-- a name and the word of a type, and exactly one of `path` (of a file) and `text` (the CSV itself), both texts.
use Rattle.std.specs.Prelude.{ℕ, List, [], ◌∷◌, length, codes, Option, Some, None, Result, Ok, Err, if◌then◌else◌}
use Rattle.std.specs.Str.{bytes_eq}
use Rattle.toml.specs.Data.{Data, Members, get_member}
use Rattle.df_value.specs.declared.cell.CellType.{CellType}
use Rattle.df_value.specs.declared.cell.CellType.TheVariants as dtype
use Rattle.df_value.specs.declared.schema.SchemaFault.{SchemaFault}
use Rattle.df_value.specs.Names.{has_name}
use Rattle.df_value.specs.SchemaFaults.{schema_fault}
use Rattle.df_text.specs.declared.document.FrameSpec.{FrameSpec}
use Rattle.df_text.specs.declared.document.FrameSource.{FrameSource}
use Rattle.df_text.specs.declared.document.FrameSource.TheVariants as source
use Rattle.df_text.specs.declared.document.Location.{Location}
use Rattle.df_text.specs.declared.document.Location.TheVariants as location
use Rattle.df_text.specs.declared.fault.ViewsFault.{ViewsFault}
use Rattle.df_text.specs.declared.fault.ViewsFault.TheVariants as fault
use Rattle.df_value.specs.Outcomes.{then_next}
use Rattle.df_text.specs.Reading.{read_after, read_each}
use Rattle.df_text.specs.Tree.{has_only_keys, value_at, text_in, array_in, table_value, pair_in}

-- where the records come from, by what stands at `path` and at `text`: one of them is there, and is a text
abbrev pub one_source : Location → Option Data → Option Data → Result FrameSource ViewsFault
one_source at (Some p) None = then_next (text_in at p) (λ path. Ok (source.Path path))
one_source at None (Some t) = then_next (text_in at t) (λ text. Ok (source.Text text))
one_source at (Some p) (Some t) = Err (fault.Shape at)
one_source at None None = Err (fault.Shape at)

abbrev pub source_of : Location → Members → Result FrameSource ViewsFault
source_of at ms = one_source at (get_member (codes "path") ms) (get_member (codes "text") ms)

-- what stands at the keys of a frame
pub record FrameEntries : Type 0 where
  pub name : List ℕ
  pub columns : List Data
  pub source : FrameSource

-- the keys of a frame and no other, each with a value of its kind (a fault in any of these is the same one)
abbrev pub entries_of_frame : Location → Members → Result FrameEntries ViewsFault
entries_of_frame at ms =
    if has_only_keys (codes "name" ∷ codes "columns" ∷ codes "path" ∷ codes "text" ∷ []) ms then
    then_next (value_at at (codes "name") ms) (λ n. then_next (text_in at n) (λ name.
    then_next (value_at at (codes "columns") ms) (λ c. then_next (array_in at c) (λ columns.
    then_next (source_of at ms) (λ source. Ok (record { name = name; columns = columns; source = source }))))))
    else Err (fault.Shape at)

-- the type that a word names
abbrev pub dtype_of_word : Location → List ℕ → Result CellType ViewsFault
dtype_of_word at w =
    if bytes_eq w (codes "Int") then Ok dtype.Int
    else if bytes_eq w (codes "Text") then Ok dtype.Text
    else if bytes_eq w (codes "Bool") then Ok dtype.Bool
    else Err (fault.Word at)

-- an array of two texts, a name and the word of a type
abbrev pub schema_column_of : Location → Data → Result (List ℕ × CellType) ViewsFault
schema_column_of at d =
    then_next (array_in at d) (λ ds. then_next (pair_in at ds) (λ p.
    then_next (text_in at p.0) (λ name. then_next (text_in at p.1) (λ word.
    then_next (dtype_of_word at word) (λ t. Ok (name, t))))))

abbrev pub unless_fault : ℕ → List (List ℕ × CellType) → Option SchemaFault → Result (List (List ℕ × CellType)) ViewsFault
unless_fault index columns (Some f) = Err (fault.Schema index f)
unless_fault index columns None = Ok columns

-- the columns of the frame of this index, if they are a schema
abbrev pub schema_of : ℕ → List (List ℕ × CellType) → Result (List (List ℕ × CellType)) ViewsFault
schema_of index columns = unless_fault index columns (schema_fault columns)

-- a name that none of these frames has
abbrev pub new_name : Location → List ℕ → List FrameSpec → Result (List ℕ) ViewsFault
new_name at name frames = if has_name (λ (f : FrameSpec). f.name) name frames then Err (fault.Doubled at) else Ok name

-- a frame after those that stand before it
abbrev pub frame_of : List FrameSpec → Data → Result FrameSpec ViewsFault
frame_of before d =
    let at = location.Frame (length before) in
    then_next (table_value at d) (λ ms. then_next (entries_of_frame at ms) (λ entries.
    then_next (read_each (schema_column_of at) entries.columns) (λ columns.
    then_next (schema_of (length before) columns) (λ schema.
    then_next (new_name at entries.name before) (λ name.
    Ok (record { name = name; schema = schema; source = entries.source }))))))

abbrev pub frames_of : List Data → Result (List FrameSpec) ViewsFault
frames_of ds = read_after frame_of [] ds
