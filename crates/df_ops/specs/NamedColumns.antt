-- How columns are put among others, as `with_columns` of the Polars Python reference puts them.
use Rattle.std.specs.Prelude.{ℕ, Bool, not, List, ◌++◌, Option, find, filter, map, unwrap_or}
use Rattle.std.specs.Str.{bytes_eq}
use Rattle.df_value.specs.Names.{has_name}
use Rattle.df_value.specs.Schemas.{Columns, column_index}

-- whether something has this name
abbrev pub has_column : {T : Type 0} → List ℕ → List (List ℕ × T) → Bool
has_column name xs = has_name (λ x. x.0) name xs

-- what has this name first
abbrev pub first_of_name : {T : Type 0} → List ℕ → List (List ℕ × T) → Option (List ℕ × T)
first_of_name name xs = find (λ x. bytes_eq x.0 name) xs

-- what is added under a name, or what stood there
abbrev pub added_or_own : {T : Type 0} → List (List ℕ × T) → List ℕ × T → List ℕ × T
added_or_own added own = unwrap_or (first_of_name own.0 added) own

-- each of one's own, replaced in its place by the added one of its name; then the added ones of new names, in order
unfoldable pub with_columns : {T : Type 0} → List (List ℕ × T) → List (List ℕ × T) → List (List ℕ × T)
with_columns own added = map (added_or_own added) own ++ filter (λ a. not (has_column a.0 own)) added

-- the indices of the columns of these names
abbrev pub column_indices : Columns → List (List ℕ) → List (Option ℕ)
column_indices columns names = map (λ name. column_index name columns) names
