-- The table of a view, as a view document has it, each step on a line of its own.
use Rattle.std.specs.Prelude.{◌++◌, ℕ, List, [], codes, if◌then◌else◌}
use Rattle.std.specs.List.{join_by}
use Rattle.toml.specs.Data.{Data}
use Rattle.df_plan.specs.declared.plan.Plan.{Plan}
use Rattle.df_text.specs.declared.document.FrameSpec.{FrameSpec}
use Rattle.df_writing.specs.StepData.{Written, frame_name, has_any, written}
use Rattle.df_writing.specs.Texts.{data_text, quoted}

-- steps behind one another, with this text between them
abbrev pub steps_text : List ℕ → List Data → List ℕ
steps_text between steps = join_by data_text between steps

-- the steps before another one, and the text between it and them
abbrev pub steps_before : List ℕ → List Data → List ℕ
steps_before between steps = if has_any steps then steps_text between steps ++ between else []

-- the array of the steps, a line each
abbrev pub step_lines : List Data → List ℕ
step_lines steps =
    if has_any steps then codes "[\n  " ++ (steps_text (codes ",\n  ") steps ++ codes ",\n]\n") else codes "[]\n"

abbrev pub view_head : List ℕ → List ℕ → List ℕ
view_head name source = codes "[[view]]\nname = " ++ (quoted name ++ (codes "\nfrom = " ++ (quoted source ++ codes "\nsteps = ")))

abbrev pub written_table : List ℕ → List FrameSpec → Written → List ℕ
written_table name frames w = view_head name (frame_name frames w.source) ++ step_lines w.steps

-- the table of the view of this name and plan, over these frames
unfoldable pub view_table : List ℕ → List FrameSpec → Plan → List ℕ
view_table name frames plan = written_table name frames (written frames plan)
