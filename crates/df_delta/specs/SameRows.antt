-- Whether two rows, of which each may be missing, are equal.
use Rattle.std.specs.Prelude.{Bool, true, false, Option, Some, None, List, [], ◌++◌}
use Rattle.std.specs.Option.{option_map}
use Rattle.std.specs.List.{cons_option}
use Rattle.df_value.specs.declared.cell.Cell.{Cell}
use Rattle.df_value.specs.Rows.{row_eq}
use Rattle.df_column.specs.Changes.{Change}
use Rattle.df_column.specs.declared.tag.Tag.{Tag}
use Rattle.df_delta.specs.ChangeOf.{change_of}

abbrev pub same_row : Option (List Cell) → Option (List Cell) → Bool
same_row None None = true
same_row None (Some b) = false
same_row (Some a) None = false
same_row (Some a) (Some b) = row_eq a b

-- these changes, and behind them the one from a to b at the tag where the two differ
abbrev pub with_change : List (Tag × Change (List Cell)) → Tag → Option (List Cell) → Option (List Cell) → List (Tag × Change (List Cell))
with_change es tag a b = es ++ cons_option (option_map (λ c. (tag, c)) (change_of same_row a b)) []
