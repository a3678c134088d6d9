-- Data as a view document writes it, on one line of TOML 1.1. A document has no floats and no dates.
use Rattle.std.specs.Prelude.{◌++◌, ◌==◌, ◌||◌, ◌/◌, ◌%◌, ℕ, Bool, true, false, List, [], ◌∷◌, codes, flat_map, nat_lt, if◌then◌else◌}
use Rattle.std.specs.Fmt.{signed_decimal}
use Rattle.toml.specs.Data.{Data, string, integer, float, boolean, datetime, array, table, Items, no_items, item, Members, no_members, member}
use Rattle.df_print.specs.Printed.{hex_digit}

-- the code of a control character, as a text of TOML has it
abbrev pub code_text : ℕ → List ℕ
code_text b = codes "\\u00" ++ hex_digit (b / 16) ∷ hex_digit (b % 16) ∷ []

-- a byte of a text of TOML in double quotes: a quote and a backslash behind a backslash, a control character by its code
abbrev pub byte_text : ℕ → List ℕ
byte_text b =
    if b == 34 then 92 ∷ 34 ∷ []
    else if b == 92 then 92 ∷ 92 ∷ []
    else if nat_lt b 32 || b == 127 then code_text b
    else b ∷ []

-- a text of TOML, in double quotes
unfoldable pub quoted : List ℕ → List ℕ
quoted text = 34 ∷ (flat_map byte_text text ++ 34 ∷ [])

abbrev pub truth_text : Bool → List ℕ
truth_text true = codes "true"
truth_text false = codes "false"

abbrev mutual
  -- a value
  pub data_text : Data → List ℕ
  data_text (string s) = quoted s
  data_text (integer n) = signed_decimal n
  data_text (boolean b) = truth_text b
  data_text (array ds) = codes "[" ++ items_text ds
  data_text (table ms) = codes "{ " ++ members_text ms
  data_text (float x) = []
  data_text (datetime t) = []

  -- the items of an array, and its end
  pub items_text : Items → List ℕ
  items_text no_items = codes "]"
  items_text (item d ds) = data_text d ++ later_items ds

  -- those behind the first one
  pub later_items : Items → List ℕ
  later_items no_items = codes "]"
  later_items (item d ds) = codes ", " ++ (data_text d ++ later_items ds)

  -- the members of a table, whose keys are bare words, and its end
  pub members_text : Members → List ℕ
  members_text no_members = codes "}"
  members_text (member k d ms) = k ++ (codes " = " ++ (data_text d ++ later_members ms))

  -- those behind the first one
  pub later_members : Members → List ℕ
  later_members no_members = codes " }"
  later_members (member k d ms) = codes ", " ++ (k ++ (codes " = " ++ (data_text d ++ later_members ms)))

-- the only item behind the first one
abbrev pub last_item : Data → List ℕ
last_item d = later_items (item d no_items)

-- an array of three up to its second item, of which the first is a text
abbrev pub two_items : List ℕ → Data → List ℕ
two_items word a = codes "[" ++ (quoted word ++ (codes ", " ++ data_text a))
