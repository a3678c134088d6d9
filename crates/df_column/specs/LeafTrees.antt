-- The leaves of a tree, and where one of them begins.
use Rattle.std.specs.Prelude.{◌≡◌, ◌<◌, ◌≤◌, ◌+◌, ℕ, Bool, true, false, not, List, [], ◌∷◌, Option, Some, None, length, take}
use Rattle.std.specs.Ordering.{is_gt}
use Rattle.df_column.specs.BlockLists.{HaveRows, blocks_of_leaves}
use Rattle.df_column.specs.Blocks.{BlockParts, rows_of_blocks}
use Rattle.df_column.specs.LeafTotals.{totals_of}
use Rattle.df_column.specs.Tags.{tag_cmp}
use Rattle.df_column.specs.declared.leaf_totals.Totals.{Totals}
use Rattle.df_column.specs.declared.tag.Tag.{Tag}
use Rattle.df_tree.specs.Leaves.{items_in}

-- the leaves of a sequence, none where there is none
abbrev pub leaves_in : Option (List (List (List BlockParts) × ℕ) × ℕ) → List (List BlockParts)
leaves_in None = []
leaves_in (Some s) = items_in {I = List BlockParts} s

-- each leaf has a block, and each block has rows
abbrev pub AreFull : List (List BlockParts) → Type 0
AreFull [] = Unit {0}
AreFull (l ∷ ls) = ((0 < length l) × HaveRows l) × AreFull ls

-- whether the first of these rows, if there is one, is not behind the tag
abbrev pub begins_up_to : {X : Type 0} → Tag → List (Tag × X) → Bool
begins_up_to tag [] = true
begins_up_to tag (r ∷ rs) = not (is_gt (tag_cmp r.0 tag))

-- whether a leaf begins not behind the tag
abbrev pub reaches : Tag → List BlockParts → Bool
reaches tag leaf = begins_up_to tag (rows_of_blocks leaf)

-- so many leaves stand before the one with which the totals pass a test, or all, and this is what they add up to
pub record IsBefore (passes : Totals → Bool) (leaves : List (List BlockParts)) (at : ℕ) (before : Totals) : Type 0 where
  pub within : at ≤ length leaves
  pub before_is : before ≡ totals_of (blocks_of_leaves (take at leaves))
  pub not_yet : passes before ≡ false
  pub now : at < length leaves → passes (totals_of (blocks_of_leaves (take (at + 1) leaves))) ≡ true
