-- The parts of a document's tree, as far as they have the kind that they should have.
use Rattle.std.specs.Prelude.{ℕ, List, [], ◌∷◌, ◌++◌, Option, Some, None, Result, Ok, Err, codes, option_and_then, slice_get}
use Rattle.toml.specs.Data.{Data, array, Members, no_members, as_str, as_table, get_member}
use Rattle.df_text.specs.Tree.{list_of, tree_of}
use Rattle.df_text.specs.declared.fault.ViewsFault.{ViewsFault}

-- the items of an array; none of another value
abbrev pub items_in : Data → List Data
items_in (array ds) = list_of ds
items_in _ = []

abbrev pub items_or_none : Option Data → List Data
items_or_none None = []
items_or_none (Some d) = items_in d

-- the items of the array at a key; none where there is no array
abbrev pub array_at : List ℕ → Members → List Data
array_at key tree = items_or_none (get_member key tree)

-- the table of this index in the array at a key
abbrev pub table_in : List ℕ → ℕ → Members → Option Members
table_in key index tree = option_and_then as_table (slice_get (array_at key tree) index)

-- the text at a key
abbrev pub text_at : List ℕ → Members → Option (List ℕ)
text_at key tree = option_and_then as_str (get_member key tree)

-- the text that the first of these items is
abbrev pub head_of : List Data → Option (List ℕ)
head_of [] = None
head_of (d ∷ ds) = as_str d

-- the word of the step of this index
abbrev pub word_in : List Data → ℕ → Option (List ℕ)
word_in steps index = head_of (items_or_none (slice_get steps index))

-- the name of the frame, or of the view, of this index
abbrev pub name_in : List ℕ → ℕ → Members → Option (List ℕ)
name_in kind index tree = option_and_then (text_at (codes "name")) (table_in kind index tree)

abbrev pub steps_or_none : Option Members → List Data
steps_or_none None = []
steps_or_none (Some table) = array_at (codes "steps") table

-- the steps of the view of this index
abbrev pub steps_in : ℕ → Members → List Data
steps_in index tree = steps_or_none (table_in (codes "view") index tree)

abbrev pub tree_or_none : Result Members ViewsFault → Members
tree_or_none (Ok tree) = tree
tree_or_none (Err f) = no_members

-- the tree of a document; an empty one of bytes that are no TOML
abbrev pub tree_in : List ℕ → Members
tree_in bytes = tree_or_none (tree_of bytes)

-- the steps that a text says, as a document has them behind `steps = `
abbrev pub steps_said : List ℕ → List Data
steps_said text = array_at (codes "steps") (tree_in (codes "steps = " ++ text))
