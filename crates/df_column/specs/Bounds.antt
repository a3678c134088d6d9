-- Where the rows of a table below a tag end, and those up to it.
use Rattle.std.specs.Prelude.{ℕ, ◌≤◌, Bool, false, not, Option, Some, None, T, List, drop, length, take}
use Rattle.std.specs.List.{list_all}
use Rattle.std.specs.Ordering.{is_gt, is_lt}
use Rattle.df_value.specs.declared.cell.Cell.{Cell}
use Rattle.df_column.specs.Tags.{tag_cmp}
use Rattle.df_column.specs.declared.tag.Tag.{Tag}

-- whether a tag is below another
abbrev pub is_below : Tag → Tag → Bool
is_below a b = is_lt (tag_cmp a b)

-- whether there is a first tag, and it is above this one
abbrev pub begins_behind : Option Tag → Tag → Bool
begins_behind None tag = false
begins_behind (Some first) tag = is_gt (tag_cmp first tag)

-- the first n rows have lesser tags, and no other row has
pub record IsLowerBound (tag : Tag) (rows : List (Tag × List Cell)) (n : ℕ) : Type 0 where
  pub within : n ≤ length rows
  pub before : T (list_all (λ r. is_below r.0 tag) (take n rows))
  pub after : T (list_all (λ r. not (is_below r.0 tag)) (drop n rows))

-- the first n rows have no greater tags, and all others have
pub record IsUpperBound (tag : Tag) (rows : List (Tag × List Cell)) (n : ℕ) : Type 0 where
  pub within : n ≤ length rows
  pub before : T (list_all (λ r. not (is_below tag r.0)) (take n rows))
  pub after : T (list_all (λ r. is_below tag r.0) (drop n rows))
