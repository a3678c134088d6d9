-- A table that begins with a frame: its name stands at the key `from`, and the steps after it, if any, at `steps`. Such
-- are a view, which has a name of its own besides, and the right side of a join.
use Rattle.std.specs.Prelude.{ℕ, List, [], ◌∷◌, length, nat_lt, codes, Option, Some, None, Result, Ok, Err, if◌then◌else◌}
use Rattle.toml.specs.Data.{Data, Members, get_member}
use Rattle.df_text.specs.declared.document.FrameSpec.{FrameSpec}
use Rattle.df_text.specs.declared.document.Location.{Location}
use Rattle.df_text.specs.declared.fault.ViewsFault.{ViewsFault}
use Rattle.df_text.specs.declared.fault.ViewsFault.TheVariants as fault
use Rattle.df_value.specs.Names.{index_of_name}
use Rattle.df_value.specs.Outcomes.{then_next}
use Rattle.df_text.specs.Tree.{has_only_keys, value_at, text_in, array_in}

-- the items of an array that may be missing
abbrev pub array_or_none : Location → Option Data → Result (List Data) ViewsFault
array_or_none at None = Ok []
array_or_none at (Some d) = array_in at d

-- a table has at most so many steps, this project's own choice
abbrev pub most_steps : ℕ
most_steps = 64

-- steps that are not too many
abbrev pub steps_within : Location → List Data → Result (List Data) ViewsFault
steps_within at steps = if nat_lt most_steps (length steps) then Err (fault.Shape at) else Ok steps

-- the steps of a table: an array that is not too long, or missing
abbrev pub steps_of_table : Location → Members → Result (List Data) ViewsFault
steps_of_table at ms = then_next (array_or_none at (get_member (codes "steps") ms)) (steps_within at)

-- the name at `from`, where `steps` is an array that is not too long, or missing (a fault in any of these is the same one)
abbrev pub source_at : Location → Members → Result (List ℕ) ViewsFault
source_at at ms =
    then_next (value_at at (codes "from") ms) (λ s. then_next (text_in at s) (λ source.
    then_next (steps_of_table at ms) (λ _. Ok source)))

-- the same of a table that has no other key
abbrev pub only_source_at : Location → Members → Result (List ℕ) ViewsFault
only_source_at at ms = if has_only_keys (codes "from" ∷ codes "steps" ∷ []) ms then source_at at ms else Err (fault.Shape at)

-- the index that was found
abbrev pub found_frame : Location → Option ℕ → Result ℕ ViewsFault
found_frame at (Some i) = Ok i
found_frame at None = Err (fault.NoFrame at)

-- the index of the frame of this name
unfoldable pub frame_named : Location → List ℕ → List FrameSpec → Result ℕ ViewsFault
frame_named at name frames = found_frame at (index_of_name (λ (f : FrameSpec). f.name) name frames)
