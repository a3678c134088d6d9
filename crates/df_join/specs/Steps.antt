-- What a changed row of one side changes in a join.
use Rattle.std.specs.Prelude.{◌≡◌, Bool, cond, ◌||◌, Option, Some, None}
use Rattle.std.specs.Option.{IfSome, option_and_then}
use Rattle.std.specs.Ordering.{eq_by_cmp}
use Rattle.std.specs.FinMap.{FinMap, get}
use Rattle.df_column.specs.declared.tag.Tag.{Tag}
use Rattle.df_column.specs.Tags.{tag_cmp}
use Rattle.df_column.specs.Changes.{Change}
use Rattle.df_join.specs.Spread.{no_tag, tag_left, tag_right}
use Rattle.df_join.specs.Joined.{Join, right_rows, beside}

-- both sides of a change, or none
abbrev pub both_sides : {Y : Type 0} → Option Y → Option Y → Option (Change Y)
both_sides None None = None
both_sides None (Some b) = Some (record { old = None; new = Some b })
both_sides (Some a) b = Some (record { old = Some a; new = b })

module _ {X Y Z G : Type 0} (j : Join X Y Z G) (one : Bool) where
  -- what a left row, or none, has at a right tag
  abbrev pub beside_at : FinMap tag_cmp Y → Option X → Tag → Option Z
  beside_at r x v = option_and_then (λ x. get (beside j x (right_rows j (j.left_key x) r)) v) x

  -- the notes of a left tag at which one row takes the place of another
  abbrev pub left_notes : FinMap tag_cmp Y → Tag → Option X → Option X → Tag → Option (Change Z)
  left_notes r p old new q = cond (eq_by_cmp tag_cmp (tag_left one q) p) (both_sides (beside_at r old (tag_right one q)) (beside_at r new (tag_right one q))) None

  -- the notes of a right tag at which the key's rows become others: at the pairs with that tag, and at the left rows alone
  abbrev pub right_notes : FinMap tag_cmp X → Tag → FinMap tag_cmp Y → FinMap tag_cmp Y → Tag → Option (Change Z)
  right_notes xs s old new q = option_and_then (λ x. cond (eq_by_cmp tag_cmp (tag_right one q) s || eq_by_cmp tag_cmp (tag_right one q) no_tag) (both_sides (get (beside j x old) (tag_right one q)) (get (beside j x new) (tag_right one q))) None) (get xs (tag_left one q))

  -- the row, if there is one, has this key
  abbrev pub HasRightKey : Option G → Option Y → Type 0
  HasRightKey k y = IfSome y (λ y. j.right_key y ≡ k)
