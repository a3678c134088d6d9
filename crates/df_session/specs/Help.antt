-- What a list of commands says: each with its name, a line, and an example.
use Rattle.std.specs.Prelude.{◌++◌, ℕ, List, [], ◌∷◌, Option, Some, None, bytes_eq, flat_map, if◌then◌else◌}

-- their lines
abbrev pub help_list : List (List ℕ × List ℕ × List ℕ) → List ℕ
help_list commands = flat_map (λ c. c.1) commands

-- a line and its example, where the command has this name
abbrev pub entry_of : List ℕ → List ℕ × List ℕ × List ℕ → List ℕ
entry_of name c = if bytes_eq c.0 name then c.1 ++ c.2 else []

abbrev pub entries : List ℕ → List (List ℕ × List ℕ × List ℕ) → List ℕ
entries name commands = flat_map (entry_of name) commands

-- a text, if it is not empty
abbrev pub text_if_any : List ℕ → Option (List ℕ)
text_if_any [] = None
text_if_any (b ∷ bs) = Some (b ∷ bs)

-- the lines of the commands of a name with their examples, if there is such a command
abbrev pub help_on : List ℕ → List (List ℕ × List ℕ × List ℕ) → Option (List ℕ)
help_on name commands = text_if_any (entries name commands)
