-- What is told of frames and views: their columns with their types, how many rows the frames have, and the plans of the views.
use Rattle.std.specs.Prelude.{◌++◌, ℕ, List, [], Option, Some, None, codes, decimal, flat_map, length, option_map, slice_get}
use Rattle.std.specs.List.{range_with_len}
use Rattle.df_plan.specs.CheckedParts.{CheckedParts}
use Rattle.df_value.specs.declared.cell.CellType.{CellType}
use Rattle.df_print.specs.Printed.{escaped_text}
use Rattle.df_session.specs.Asked.{frame_index_of, plan_named}
use Rattle.df_session.specs.Greetings.{plural_end}
use Rattle.df_session.specs.declared.definitions.Definitions.{Definitions}
use Rattle.df_text.specs.declared.document.FrameSpec.{FrameSpec}
use Rattle.df_writing.specs.FrameTables.{dtype_word}
use Rattle.df_writing.specs.ViewTables.{view_table}

-- a column: its name, and behind a blank its type
abbrev pub column_text : List ℕ × CellType → List ℕ
column_text c = escaped_text c.0 ++ (codes " " ++ dtype_word c.1)

-- columns, each between what stands before it and what stands behind it
abbrev pub columns_text : List ℕ → List (List ℕ × CellType) → List ℕ → List ℕ
columns_text before schema behind = flat_map (λ c. before ++ (column_text c ++ behind)) schema

-- columns, a line each
abbrev pub schema_text : List (List ℕ × CellType) → List ℕ
schema_text schema = columns_text [] schema (codes "\n")

abbrev pub frame_head : List ℕ → ℕ → List ℕ
frame_head name rows = escaped_text name ++ (codes ": " ++ (decimal rows ++ (codes " row" ++ plural_end rows)))

-- a frame of so many rows: its name, that number, and its columns
abbrev pub frame_line : FrameSpec → ℕ → List ℕ
frame_line spec rows = frame_head spec.name rows ++ (columns_text (codes ", ") spec.schema [] ++ codes "\n")

-- the line of a frame, where the document has it and it has rows that are counted
abbrev pub frame_line_of : Option FrameSpec → Option ℕ → List ℕ
frame_line_of (Some spec) (Some rows) = frame_line spec rows
frame_line_of spec rows = []

-- the frames of a document, of which the one at each index has so many rows
abbrev pub frames_text : Definitions → (ℕ → Option ℕ) → List ℕ
frames_text d counts =
    flat_map (λ at. frame_line_of (slice_get d.document.frames at) (counts at)) (range_with_len 0 (length d.document.frames))

-- the schema of a frame, or else that of a plan
abbrev pub schema_of_either : Option FrameSpec → Option CheckedParts → Option (List (List ℕ × CellType))
schema_of_either (Some spec) plan = Some spec.schema
schema_of_either None (Some plan) = Some plan.schema
schema_of_either None None = None

abbrev pub frame_at : Definitions → Option ℕ → Option FrameSpec
frame_at d (Some at) = slice_get d.document.frames at
frame_at d None = None

-- the schema of the document's frame of a name, or else of its view
abbrev pub schema_named : Definitions → List ℕ → Option (List (List ℕ × CellType))
schema_named d name = schema_of_either (frame_at d (frame_index_of d name)) (plan_named d name)

-- the table of the view of a name, as the document has it or would have it
abbrev pub plan_text : Definitions → List ℕ → Option (List ℕ)
plan_text d name = option_map (λ (p : CheckedParts). view_table name d.document.frames p.plan) (plan_named d name)
