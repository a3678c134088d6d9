-- Tables: a schema, and a map from tags to rows.
use Rattle.std.specs.Prelude.{ℕ, Bool, true, T, List, Option, Some, None, map, length, refl}
use Rattle.std.specs.List.{list_all, prefix_len}
use Rattle.std.specs.Ordering.{is_lt}
use Rattle.std.specs.Coded.{Coded, code_by, coded×, coded_list, coded_ℕ}
use Rattle.std.specs.FinMap as finite
use Rattle.df_value.specs.Rows.{row_fits}
use Rattle.df_value.specs.declared.cell.Cell.{Cell}
use Rattle.df_value.specs.declared.cell.CellType.{CellType}
use Rattle.df_value.specs.contracts.cell.Cell as cell_type
use Rattle.df_value.specs.contracts.cell.CellType as dtype_type
use Rattle.df_column.specs.Tags.{tag_cmp, tag_code}
use Rattle.df_column.specs.Changes.{Change, applied}
use Rattle.df_column.specs.declared.tag.Tag.{Tag}
use Rattle.df_column.specs.declared.entry.Entry.{Entry}

-- rows by their tags
abbrev pub TaggedRows : Type 0
TaggedRows = finite.FinMap tag_cmp (List Cell)

abbrev pub rows_code : Coded TaggedRows
rows_code = finite.code tag_code (coded_list cell_type.the_row.coded)

-- what callers see of a table
pub record TableParts : Type 0 where
  pub schema : List (List ℕ × CellType)
  pub rows : TaggedRows

-- a table is stored as the pair of its parts
abbrev pub table_code : Coded TableParts
table_code =
    code_by (List (List ℕ × CellType) × TaggedRows)
    (coded× (coded_list (coded× (coded_list coded_ℕ) dtype_type.the_row.coded)) rows_code)
    (λ t. (t.schema, t.rows)) (λ p. record { schema = p.0; rows = p.1 }) (λ _. refl)

-- the types of a schema's columns
abbrev pub dtypes_of : List (List ℕ × CellType) → List CellType
dtypes_of schema = map (λ c. c.1) schema

-- what an entry changes
abbrev pub entry_change : Entry → Tag × Change (List Cell)
entry_change e = (e.tag, record { old = e.old; new = e.new })

-- whether the new row, if there is one, fits the schema
abbrev pub new_row_fits : List (List ℕ × CellType) → Option (List Cell) → Bool
new_row_fits schema None = true
new_row_fits schema (Some row) = row_fits schema row

-- whether the new rows of the entries fit the schema
abbrev pub new_rows_fit : List (List ℕ × CellType) → List Entry → Bool
new_rows_fit schema entries = list_all (λ e. new_row_fits schema e.new) entries

-- they fit
abbrev pub NewRowsFit : List (List ℕ × CellType) → List Entry → Type 0
NewRowsFit schema entries = T (new_rows_fit schema entries)

-- the table after the changes of these entries: at each tag that they name stands the new row, or nothing
abbrev pub after_entries : TableParts → List Entry → TableParts
after_entries t entries =
    record { schema = t.schema; rows = applied t.rows (finite.from_sorted (map entry_change entries)) }

-- the entries name rising tags
abbrev pub AreRising : List Entry → Type 0
AreRising entries = T (finite.is_sorted tag_cmp (map entry_change entries))

-- how many of these entries stand before the tag, or all
abbrev pub count_before : Option Tag → List Entry → ℕ
count_before None es = length es
count_before (Some k) es = prefix_len (λ e. is_lt (tag_cmp e.tag k)) es
