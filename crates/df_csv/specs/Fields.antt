-- What a field of a CSV file is as a cell: an integer in the notation that Rust's i64::from_str reads, true or
-- false in any ASCII case, or the text itself; an empty field is null.
use Rattle.std.specs.Prelude.{◌+◌, ◌*◌, ◌-◌, ◌^◌, ◌==◌, ◌&&◌, ℕ, ℤ, pos, neg_ℤ, Bool, true, false, nat_lt, nat_le, List, [], ◌∷◌, length, Option, Some, None, option_map, codes, if◌then◌else◌}
use Rattle.std.specs.Str.{all_ascii_digits, str_eq_ignore_ascii_case}
use Rattle.df_value.specs.declared.cell.Cell.{Cell}
use Rattle.df_value.specs.declared.cell.Cell.TheVariants as cell
use Rattle.df_value.specs.declared.cell.CellType.{CellType}
use Rattle.df_value.specs.declared.cell.CellType.TheVariants as dtype

-- the number that decimal digits write, when they follow those of n; the code of the digit 0 is 48
abbrev pub decimal_after : ℕ → List ℕ → ℕ
decimal_after n [] = n
decimal_after n (d ∷ ds) = decimal_after (n * 10 + (d - 48)) ds

abbrev pub decimal_of : List ℕ → ℕ
decimal_of ds = decimal_after 0 ds

-- one digit or more
abbrev pub are_digits : List ℕ → Bool
are_digits ds = nat_lt 0 (length ds) && all_ascii_digits ds

-- digits after a plus or no sign, within i64
abbrev pub int_from : List ℕ → Option ℤ
int_from ds = if are_digits ds && nat_lt (decimal_of ds) (2 ^ 63) then Some (pos (decimal_of ds)) else None

-- digits after a minus, within i64
abbrev pub negative_from : List ℕ → Option ℤ
negative_from ds = if are_digits ds && nat_le (decimal_of ds) (2 ^ 63) then Some (neg_ℤ (pos (decimal_of ds))) else None

-- the integer that a text writes: a minus (45), a plus (43) or no sign, and digits
abbrev pub int_of_text : List ℕ → Option ℤ
int_of_text [] = None
int_of_text (c ∷ cs) = if c == 45 then negative_from cs else if c == 43 then int_from cs else int_from (c ∷ cs)

-- the Boolean that a text names
abbrev pub bool_of_text : List ℕ → Option Bool
bool_of_text text =
    if str_eq_ignore_ascii_case text (codes "true") then Some true
    else if str_eq_ignore_ascii_case text (codes "false") then Some false
    else None

-- the value of a type that a text writes; no text writes one of a type that base frames do not have
abbrev pub value_of_text : CellType → List ℕ → Option Cell
value_of_text dtype.Int text = option_map cell.Int (int_of_text text)
value_of_text dtype.Bool text = option_map cell.Bool (bool_of_text text)
value_of_text dtype.Text text = Some (cell.Text text)
value_of_text dtype.Wide text = None
value_of_text dtype.Frac text = None

-- the cell of a field in a column of this type, or none where the field is no value of it
abbrev pub cell_of_text : CellType → List ℕ → Option Cell
cell_of_text t field = if length field == 0 then Some cell.Null else value_of_text t field
