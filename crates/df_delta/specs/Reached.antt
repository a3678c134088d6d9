-- What an operator answers that looks again at some tags: the change at each of them, where the two outputs differ.
use Rattle.std.specs.Prelude.{Bool, true, List, [], ◌∷◌, map}
use Rattle.std.specs.List.{cons_option, list_any}
use Rattle.std.specs.Option.{option_map}
use Rattle.std.specs.Ordering.{eq_by_cmp}
use Rattle.std.specs.FinMap as finite
use Rattle.df_value.specs.declared.cell.Cell.{Cell}
use Rattle.df_column.specs.Changes.{Change}
use Rattle.df_column.specs.Tables.{TaggedRows}
use Rattle.df_column.specs.Tags.{tag_cmp}
use Rattle.df_column.specs.declared.tag.Tag.{Tag}
use Rattle.df_delta.specs.ChangeOf.{change_of}
use Rattle.df_delta.specs.SameRows.{same_row}

-- the changes from t to u at these tags, without those that are idle
abbrev pub changes_at : TaggedRows → TaggedRows → List Tag → List (Tag × Change (List Cell))
changes_at t u [] = []
changes_at t u (q ∷ qs) = cons_option (option_map (λ c. (q, c)) (change_of same_row (finite.get t q) (finite.get u q))) (changes_at t u qs)

-- the tags rise
abbrev pub are_rising : List Tag → Bool
are_rising qs = finite.is_sorted tag_cmp (map (λ q. (q, true)) qs)

-- whether a tag is one of these
abbrev pub is_reached : List Tag → Tag → Bool
is_reached qs q = list_any (eq_by_cmp tag_cmp q) qs
