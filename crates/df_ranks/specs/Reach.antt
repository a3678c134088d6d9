-- The tags at which a rank looks again.
use Rattle.std.specs.Prelude.{◌≡◌, ℕ, Bool, false, T, List, [], Option, Some, None, filter, map}
use Rattle.std.specs.Option.{IfSome}
use Rattle.std.specs.Ordering.{is_lt}
use Rattle.std.specs.FinMap as finite
use Rattle.df_value.specs.CellOrder.{cell_cmp}
use Rattle.df_value.specs.Rows.{cell_at}
use Rattle.df_value.specs.declared.cell.Cell.{Cell}
use Rattle.df_column.specs.Tables.{TaggedRows}
use Rattle.df_column.specs.declared.tag.Tag.{Tag}
use Rattle.df_delta.specs.Deltas.{Changes}
use Rattle.df_delta.specs.Reached.{are_rising, is_reached}
use Rattle.df_counts.specs.Counts.{value_in}

-- whether this is a value above the least
abbrev pub is_value_above : Cell → Option Cell → Bool
is_value_above least None = false
is_value_above least (Some c) = is_lt (cell_cmp least c)

-- whether the row's value at an index is above the least
abbrev pub is_row_above : Option ℕ → Cell → List Cell → Bool
is_row_above index least row = is_value_above least (value_in (cell_at index row))

-- the tags of such rows
abbrev pub tags_above : Option ℕ → Cell → List (Tag × List Cell) → List Tag
tags_above index least rows = map (λ r. r.0) (filter (λ r. is_row_above index least r.1) rows)

abbrev pub tags_above_any : Option ℕ → Option Cell → List (Tag × List Cell) → List Tag
tags_above_any index None rows = []
tags_above_any index (Some least) rows = tags_above index least rows

-- the same where there may be no least
abbrev pub is_row_above_any : Option ℕ → Option Cell → List Cell → Bool
is_row_above_any index None row = false
is_row_above_any index (Some least) row = is_row_above index least row

-- the tags rise, and among them are those of the delta and of each row whose value is above the least
pub record Reaches (tags : List Tag) (delta : Changes) (input : TaggedRows) (index : Option ℕ) (least : Option Cell) : Type 0 where
  pub rising : T (are_rising tags)
  pub changed : (q : Tag) → is_reached tags q ≡ false → finite.get delta q ≡ None
  pub above : (q : Tag) → is_reached tags q ≡ false → IfSome (finite.get input q) (λ row. is_row_above_any index least row ≡ false)
