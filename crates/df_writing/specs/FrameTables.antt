-- The table of a frame without rows, as a view document has it.
use Rattle.std.specs.Prelude.{◌++◌, ℕ, List, codes, flat_map}
use Rattle.df_value.specs.declared.cell.CellType.{CellType}
use Rattle.df_value.specs.declared.cell.CellType.TheVariants as dtype
use Rattle.df_writing.specs.Texts.{quoted}

-- the word of a type; a document has none for the last two, which are of views alone
abbrev pub dtype_word : CellType → List ℕ
dtype_word dtype.Int = codes "Int"
dtype_word dtype.Text = codes "Text"
dtype_word dtype.Bool = codes "Bool"
dtype_word dtype.Wide = codes "Wide"
dtype_word dtype.Frac = codes "Frac"

-- a column, by its name and the word of its type, as a frame of a document has it
abbrev pub column_item : List ℕ × List ℕ → List ℕ
column_item column = codes "[" ++ (quoted column.0 ++ (codes ", " ++ (quoted column.1 ++ codes "], ")))

-- a frame of a document, without rows, up to its columns
abbrev pub frame_head : List ℕ → List ℕ
frame_head name = codes "[[frame]]\nname = " ++ (quoted name ++ codes "\ntext = ''\ncolumns = [")

abbrev pub frame_table : List ℕ → List (List ℕ × List ℕ) → List ℕ
frame_table name columns = frame_head name ++ (flat_map column_item columns ++ codes "]\n")
