-- Tables as lines of JSON, one object for each row.
use Rattle.std.specs.Prelude.{◌≡◌, ◌++◌, ℕ, List, [], ◌∷◌, flat_map, codes, Some}
use Rattle.std.specs.Fmt.{signed_decimal}
use Rattle.json.specs.Json.{Json, null, boolean, number, string, object, Members, no_members, member, document}
use Rattle.json.specs.Print.{print}
use Rattle.json.specs.Tree.{json_tokens}
use Rattle.df_value.specs.declared.cell.Cell.{Cell}
use Rattle.df_value.specs.declared.cell.Cell.TheVariants as cell
use Rattle.df_value.specs.Schemas.{Columns}

-- a cell as a value of JSON
abbrev pub value_of : Cell → Json
value_of cell.Null = null
value_of (cell.Int n) = number (signed_decimal n)
value_of (cell.Wide n) = number (signed_decimal n)
value_of (cell.Text t) = string t
value_of (cell.Bool b) = boolean b
value_of (cell.Frac f) =
    object (member (codes "sum") (number (signed_decimal f.0)) (member (codes "count") (number (signed_decimal f.1)) no_members))

-- the names of columns with the cells of a row
abbrev pub members_of : Columns → List Cell → Members
members_of [] row = no_members
members_of (c ∷ columns) [] = no_members
members_of (c ∷ columns) (v ∷ row) = member c.0 (value_of v) (members_of columns row)

-- the line of an object with these members: its text without a space
abbrev pub object_line : Members → List ℕ
object_line ms = print (json_tokens (object ms)) ++ codes "\n"

-- the line of a row
abbrev pub json_line : Columns → List Cell → List ℕ
json_line columns row = object_line (members_of columns row)

-- a table: a line for each row
abbrev pub json_of : Columns → List (List Cell) → List ℕ
json_of columns rows = flat_map (json_line columns) rows

-- by the grammar of JSON the line of a row is the object of its members
abbrev pub IsReadBack : Columns → List Cell → Type 0
IsReadBack columns row = document (print (json_tokens (object (members_of columns row)))) ≡ Some (object (members_of columns row))
