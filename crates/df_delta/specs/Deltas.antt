-- Deltas of tables: which entries make one, and the rows that they lead to.
use Rattle.std.specs.Prelude.{ℕ, Bool, ◌&&◌, ◌||◌, T, List, Option, Some, None, IsTrue, is_some, map, refl}
use Rattle.std.specs.List.{list_all}
use Rattle.std.specs.Option.{IfSome}
use Rattle.std.specs.Coded.{Coded, code_by, coded×, coded_list, coded_option}
use Rattle.std.specs.FinMap as finite
use Rattle.df_value.specs.Rows.{row_fits}
use Rattle.df_value.specs.declared.cell.Cell.{Cell}
use Rattle.df_value.specs.declared.cell.CellType.{CellType}
use Rattle.df_value.specs.contracts.cell.Cell as cell_type
use Rattle.df_column.specs.Changes.{Change}
use Rattle.df_column.specs.Tables.{AreRising, TaggedRows, entry_change}
use Rattle.df_column.specs.Tags.{tag_cmp, tag_code}
use Rattle.df_column.specs.declared.entry.Entry.{Entry}
use Rattle.df_column.specs.declared.tag.Tag.{Tag}

-- changes of rows by their tags
abbrev pub Changes : Type 0
Changes = finite.FinMap tag_cmp (Change (List Cell))

abbrev pub change_code : {X : Type 0} → Coded X → Coded (Change X)
change_code {X} x =
    code_by (Option X × Option X) (coded× (coded_option x) (coded_option x)) (λ c. (c.old, c.new)) (λ p. record { old = p.0; new = p.1 }) (λ _. refl)

-- changes are stored as the list of their tags with the two rows
abbrev pub changes_code : Coded Changes
changes_code = finite.code tag_code (change_code (coded_list cell_type.the_row.coded))

-- whether a row stood at the entry's tag, or stands there afterwards
abbrev pub has_row : Entry → Bool
has_row e = is_some e.old || is_some e.new

-- whether entries make a delta: their tags rise, and each has a row
abbrev pub is_delta : List Entry → Bool
is_delta entries = finite.is_sorted tag_cmp (map entry_change entries) && list_all has_row entries

-- the same, for a proof
pub record IsDelta (entries : List Entry) : Type 0 where
  pub rising : AreRising entries
  pub rows : T (list_all has_row entries)

-- a row that comes where none was
abbrev pub coming : Tag × List Cell → Tag × Change (List Cell)
coming row = (row.0, record { old = None; new = Some row.1 })

-- all rows fit the schema
pub record RowsFit (schema : List (List ℕ × CellType)) (rows : TaggedRows) : Type 0 where
  pub at : (q : Tag) → IfSome (finite.get rows q) (λ row. IsTrue (row_fits schema row))
