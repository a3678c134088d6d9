-- The parts of a document that faults name: its top, a frame, a view, a step of a view, an item of a step.
use Rattle.std.specs.Prelude.{ℕ}
use Rattle.df_text.specs.declared.document.Location.{Location}
use Rattle.df_text.specs.declared.document.Location.TheVariants as location

-- the step of this number of a view; a part within a step, as the right side of a join, has no steps of its own here
abbrev pub step_at : Location → ℕ → Location
step_at (location.View v) n = location.Step v n
step_at at n = at

-- the item of this number of a step, of which the step's word is number 0; an item has no items of its own here
abbrev pub item_at : Location → ℕ → Location
item_at (location.Step v s) n = location.Item v s n
item_at at n = at
