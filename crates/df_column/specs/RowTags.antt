-- The tags of the rows of a block, as they are kept.
use Rattle.std.specs.Prelude.{ℕ, Bool, ◌==◌, ◌&&◌, List, map}
use Rattle.df_column.specs.declared.row_tags.KeptTags.{KeptTags}
use Rattle.df_column.specs.declared.row_tags.KeptTags.TheVariants.{Numbers, Whole}
use Rattle.df_column.specs.declared.tag.Tag.{Tag}

-- the tag of this number and zeros
abbrev pub number_tag : ℕ → Tag
number_tag n = record { first = n; second = 0; third = 0 }

-- whether all but the first number are 0
abbrev pub is_number : Tag → Bool
is_number t = (t.second == 0) && (t.third == 0)

-- the tags that are kept so
abbrev pub tags_in : KeptTags → List Tag
tags_in (Numbers numbers) = map number_tag numbers.items
tags_in (Whole tags) = tags.items
