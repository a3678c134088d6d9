-- Schemas: the names and types of a table's columns, as a Polars schema lists them.
use Rattle.std.specs.Prelude.{◌≡◌, ◌<◌, ◌≤◌, ℕ, Bool, true, false, List, [], length, Option, None, find, option_map}
use Rattle.std.specs.List.{list_all}
use Rattle.std.specs.Str.{bytes_eq}
use Rattle.df_value.specs.Limits.{most_columns}
use Rattle.df_value.specs.Names.{doubled_name_after, index_of_name}
use Rattle.df_value.specs.declared.cell.CellType.{CellType}
use Rattle.df_value.specs.declared.cell.CellType.TheVariants as dtype

-- names and types
abbrev pub Columns : Type 0
Columns = List (List ℕ × CellType)

-- the first name that stands earlier, where the columns seen stand before the list
abbrev pub doubled_column_after : Columns → Columns → Option (List ℕ)
doubled_column_after seen columns = doubled_name_after (λ c. c.0) seen columns

-- what a schema is: from 1 to 32 columns, no two of one name
pub record IsSchema (columns : Columns) : Type 0 where
  pub some : 0 < length columns
  pub few : length columns ≤ most_columns
  pub distinct : doubled_column_after [] columns ≡ None

-- the index of the column of this name
abbrev pub column_index : List ℕ → Columns → Option ℕ
column_index name columns = index_of_name (λ c. c.0) name columns

-- the type of the column of this name
abbrev pub column_dtype : List ℕ → Columns → Option CellType
column_dtype name columns = option_map (λ c. c.1) (find (λ c. bytes_eq c.0 name) columns)

-- whether a base frame may have columns of this type
abbrev pub is_base_dtype : CellType → Bool
is_base_dtype dtype.Int = true
is_base_dtype dtype.Text = true
is_base_dtype dtype.Bool = true
is_base_dtype _ = false

-- whether a base frame may have these columns
abbrev pub is_base : Columns → Bool
is_base columns = list_all (λ c. is_base_dtype c.1) columns
