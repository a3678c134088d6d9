-- The sections of views' tables in a page, marked against those that stood in the page before: a row whose tag the table of its view did
-- not have then is new, and one whose tag it had with other cells is changed.
use Rattle.std.specs.Prelude.{ℕ, Bool, List, [], Option, Some, None, bytes_eq, count_by, find, is_none, map, take}
use Rattle.std.specs.FinMap as finite
use Rattle.df_value.specs.declared.cell.Cell.{Cell}
use Rattle.df_column.specs.Tables.{TaggedRows}
use Rattle.df_page.specs.Pages.{page_of}
use Rattle.df_page.specs.Sections.{section_of}
use Rattle.df_session.specs.declared.view_table.ViewTable.{ViewTable}

-- the most rows of a view in a page
abbrev pub most_rows : ℕ
most_rows = 1000

-- what a table has at the tags of the rows that are shown of another
abbrev pub rows_at : TaggedRows → TaggedRows → List (Option (List Cell))
rows_at rows shown = map (λ e. finite.get rows e.0) (take most_rows (finite.entries shown))

-- how many of the rows that were shown of a table are gone from another
abbrev pub gone_of : TaggedRows → TaggedRows → ℕ
gone_of before rows = count_by is_none (rows_at rows before)

-- the section of a view's table, whose rows were these before, as far as that is known
abbrev pub table_section : ViewTable → List (Option (List Cell)) → ℕ → List ℕ
table_section v before gone =
    section_of v.name v.schema (take most_rows (finite.values v.table.rows)) (finite.len v.table.rows) before gone

-- the same, where the view had these rows before
abbrev pub marked_section : TaggedRows → ViewTable → List ℕ
marked_section before v = table_section v (rows_at before v.table.rows) (gone_of before v.table.rows)

-- the same, where the view had this table before, if any stood there
abbrev pub section_against : Option ViewTable → ViewTable → List ℕ
section_against (Some before) v = marked_section before.table.rows v
section_against None v = table_section v [] 0

-- the same, where these tables stood in the page before
abbrev pub section_behind : List ViewTable → ViewTable → List ℕ
section_behind before v = section_against (find (λ b. bytes_eq b.name v.name) before) v

-- the page of these tables, where those stood in it before, under a title and the number of the last change; a browser loads it again, if it
-- is to
abbrev pub page_of_tables : List ℕ → ℕ → Bool → List ViewTable → List ViewTable → List ℕ
page_of_tables title number reload before tables = page_of title number reload (map (section_behind before) tables)
