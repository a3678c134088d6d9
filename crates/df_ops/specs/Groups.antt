-- Groups of rows by the cells of key columns, as `group_by` with `maintain_order=True` forms them in
-- the Polars Python reference: null is a key like any other.
use Rattle.std.specs.Prelude.{◌≡◌, ℕ, List, [], ◌∷◌, ◌++◌, Option, length, map, filter, take, if◌then◌else◌}
use Rattle.std.specs.List.{list_any}
use Rattle.df_value.specs.declared.cell.Cell.{Cell}
use Rattle.df_value.specs.Rows.{cell_at, row_eq}

-- the cells of a row at these indices
abbrev pub key_of : List (Option ℕ) → List Cell → List Cell
key_of indices row = map (λ p. cell_at p row) indices

-- the rows seen, and after them each further row that is none of these and stands for the first time
abbrev pub distinct_after : List (List Cell) → List (List Cell) → List (List Cell)
distinct_after seen [] = seen
distinct_after seen (r ∷ rs) =
    if list_any (row_eq r) seen then distinct_after seen rs else distinct_after (seen ++ r ∷ []) rs

-- the distinct keys of the rows, by first appearance
abbrev pub keys_of : List (Option ℕ) → List (List Cell) → List (List Cell)
keys_of indices rows = distinct_after [] (map (key_of indices) rows)

-- the rows that have this key, in their order
abbrev pub group_of : List (Option ℕ) → List (List Cell) → List Cell → List (List Cell)
group_of indices rows key = filter (λ r. row_eq (key_of indices r) key) rows

-- these keys stand first, in their order, among the keys of the rows and of any further ones after them
abbrev pub KeysStandFirst : List (Option ℕ) → List (List Cell) → List (List Cell) → Type 0
KeysStandFirst indices rows keys = (more : List (List Cell)) → take (length keys) (keys_of indices (rows ++ more)) ≡ keys
