-- Places of a document in words.
use Rattle.std.specs.Prelude.{◌≢◌, ◌++◌, ◌+◌, ℕ, All, List, [], Option, Some, None, codes, decimal, option_map}
use Rattle.toml.specs.Data.{Data, Members}
use Rattle.df_print.specs.Printed.{escaped_text}
use Rattle.df_text.specs.declared.document.Location.{Location}
use Rattle.df_text.specs.declared.document.Location.TheVariants as location
use Rattle.df_text.specs.declared.fault.ViewsFault.{ViewsFault}
use Rattle.df_text.specs.declared.fault.ViewsFault.TheVariants as views
use Rattle.df_explain.specs.Trees.{name_in, steps_in, word_in}

-- a name or a word in backticks, behind what has it; nothing where there is none
abbrev pub word_text : Option (List ℕ) → List ℕ
word_text None = []
word_text (Some word) = codes " `" ++ (word ++ codes "`")

-- a step by its number, from 1, and by its word if it has one
abbrev pub step_text : ℕ → Option (List ℕ) → List ℕ
step_text number word = codes "step " ++ (decimal number ++ word_text word)

-- a frame or a view by its number, from 1, and by its name if it has one
abbrev pub part_text : List ℕ → ℕ → Option (List ℕ) → List ℕ
part_text kind number name = kind ++ (codes " " ++ (decimal number ++ word_text name))

-- the step of this index among steps that are written so, with its word as it is printed
abbrev pub step_in : List Data → ℕ → List ℕ
step_in steps index = step_text (index + 1) (option_map escaped_text (word_in steps index))

-- A place in a view whose steps are written so. An item is counted behind the word of its step. Of the view itself, and of
-- what is no part of it, nothing.
abbrev pub place_in_steps : List Data → Location → List ℕ
place_in_steps steps (location.Step view step) = step_in steps step ++ codes ": "
place_in_steps steps (location.Item view step item) = step_in steps step ++ (codes ", item " ++ (decimal item ++ codes ": "))
place_in_steps steps at = []

-- the frame or the view of this index in a document of this tree, with its name as it is printed
abbrev pub part_in : Members → List ℕ → ℕ → List ℕ
part_in tree kind index = part_text kind (index + 1) (option_map escaped_text (name_in kind index tree))

abbrev pub step_place_in : Members → ℕ → Location → List ℕ
step_place_in tree view at = part_in tree (codes "view") view ++ (codes ", " ++ place_in_steps (steps_in view tree) at)

-- A place in a document of this tree: its frame, or its view and the place in its steps. Of the whole document nothing.
abbrev pub place_in : Members → Location → List ℕ
place_in tree location.Top = []
place_in tree (location.Frame frame) = part_in tree (codes "frame") frame ++ codes ": "
place_in tree (location.View view) = part_in tree (codes "view") view ++ codes ": "
place_in tree (location.Step view step) = step_place_in tree view (location.Step view step)
place_in tree (location.Item view step item) = step_place_in tree view (location.Item view step item)

-- where a fault of a document's shape lies, as far as it says
abbrev pub location_of : ViewsFault → Location
location_of (views.Shape at) = at
location_of (views.Word at) = at
location_of (views.Doubled at) = at
location_of (views.NoFrame at) = at
location_of (views.Schema frame f) = location.Frame frame
location_of f = location.Top

-- no byte of it ends a line
abbrev pub IsOneLine : List ℕ → Type 0
IsOneLine text = All (λ b. b ≢ 10) text
