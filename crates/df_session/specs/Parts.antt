-- Tables and parts of them: which rows are written, what the line below says of the others, and in which format.
use Rattle.std.specs.Prelude.{◌++◌, ◌+◌, ◌-◌, ℕ, zero, suc, List, [], codes, decimal, drop, length, min, take}
use Rattle.df_value.specs.declared.cell.Cell.{Cell}
use Rattle.df_value.specs.declared.cell.CellType.{CellType}
use Rattle.df_print.specs.Printed.{printed}
use Rattle.df_export.specs.CsvTables.{csv_of}
use Rattle.df_export.specs.JsonLines.{json_of}
use Rattle.df_export.specs.Numbered.{numbered_columns, numbered_rows}
use Rattle.df_page.specs.Sections.{section_of}
use Rattle.df_session.specs.Greetings.{plural_end}
use Rattle.df_session.specs.Told.{numbers_line}
use Rattle.df_session.specs.declared.command.Format.{Format}
use Rattle.df_session.specs.declared.command.Format.TheVariants as format
use Rattle.df_session.specs.declared.command.Part.{Part}
use Rattle.df_session.specs.declared.command.Part.TheVariants as part

-- the rows of a part, where the first row is row 0
abbrev pub part_rows : Part → List (List Cell) → List (List Cell)
part_rows part.Whole rows = rows
part_rows (part.First count) rows = take count rows
part_rows (part.From first count) rows = take count (drop first rows)

abbrev pub more_rows : ℕ → List ℕ
more_rows more = codes ".. " ++ (decimal more ++ (codes " more row" ++ (plural_end more ++ codes "\n")))

-- that there are so many more rows, if there are any
abbrev pub more_line : ℕ → List ℕ
more_line zero = []
more_line (suc n) = more_rows (suc n)

-- how many rows lie before and behind
abbrev pub around_line : ℕ → ℕ → List ℕ
around_line before behind =
    codes ".. " ++ (decimal before ++ (codes " row" ++ (plural_end before ++ (codes " before, " ++ (decimal behind ++ codes " behind\n")))))

-- the line below a part of so many rows
abbrev pub part_line : Part → ℕ → List ℕ
part_line part.Whole total = []
part_line (part.First count) total = more_line (total - count)
part_line (part.From first count) total = around_line (min first total) (total - (first + count))

-- a part of a table, printed
abbrev pub part_text : List ℕ → List (List ℕ × CellType) → Part → List (List Cell) → List ℕ
part_text name schema part rows = printed name schema (part_rows part rows) ++ part_line part (length rows)

-- a part of a table in a format; of the other rows the printed one tells, and the section of a page
abbrev pub part_in : Format → List ℕ → List (List ℕ × CellType) → Part → List (List Cell) → List ℕ
part_in format.Printed name schema part rows = part_text name schema part rows
part_in format.Csv name schema part rows = csv_of schema (part_rows part rows)
part_in format.Json name schema part rows = json_of schema (part_rows part rows)
part_in format.Html name schema part rows = section_of name schema (part_rows part rows) (length rows) [] 0

-- the table of a frame in a format, with the numbers of its rows: printed below it, else in a column of their own; the section of a page
-- has none
abbrev pub numbered_in : Format → List ℕ → List (List ℕ × CellType) → List (List Cell) → List ℕ → List ℕ
numbered_in format.Printed name schema rows numbers = printed name schema rows ++ numbers_line numbers
numbered_in format.Csv name schema rows numbers = csv_of (numbered_columns schema) (numbered_rows numbers rows)
numbered_in format.Json name schema rows numbers = json_of (numbered_columns schema) (numbered_rows numbers rows)
numbered_in format.Html name schema rows numbers = section_of name schema rows (length rows) [] 0
