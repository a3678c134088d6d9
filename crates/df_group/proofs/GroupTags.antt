-- The tags of groups.
use Rattle.std.proofs.Common.{◌≡◌, true, List, Option, Some, None, refl, sym, subst}
use Rattle.std.specs.Prelude.{is_some}
use Rattle.std.specs.Option.{IfSome, option_and_then}
use Rattle.std.specs.FinMap as finite
use Rattle.df_value.specs.declared.cell.Cell.{Cell}
use Rattle.df_column.specs.TagOrder.{tag_same}
use Rattle.df_column.specs.Tables.{TaggedRows}
use Rattle.df_column.specs.Tags.{tag_cmp}
use Rattle.df_column.specs.declared.tag.Tag.{Tag}
use Rattle.df_delta.proofs.Collected.{get-collected}
use Rattle.df_ops.specs.Groups.{key_of}
use Rattle.df_group.specs.GroupIndex.{HasTagsOf, output_of, row_of_rows}
use Rattle.df_group.specs.GroupRows.{members_of}
use Rattle.df_group.specs.Grouped.{at_tag, group_entry}
use Rattle.df_group.specs.declared.grouping.Grouping.{Grouping}

-- what is made of a row stands where the row stands
only_rows : {X Y : Type 0} (f : X → Option Y) (o : Option X) → IfSome (option_and_then f o) (λ _. is_some o ≡ true)
only_rows f None = tt
only_rows {X = X} {Y = Y} f (Some x) = always (f x) where
  always : (a : Option Y) → IfSome a (λ _. true ≡ true)
  always None = tt
  always (Some y) = refl

-- each tag of the groups is that of a row
pub group_tags : (g : Grouping) (t : TaggedRows) → HasTagsOf t (output_of g t)
group_tags g t q =
    let result = λ (q : Tag) (row : List Cell). at_tag tag_cmp q (group_entry (row_of_rows g) (key_of g.key_indices row) (finite.entries (members_of g.key_indices (key_of g.key_indices row) t))) in
    subst (λ o. IfSome o (λ _. is_some (finite.get t q) ≡ true)) (sym (get-collected tag_cmp result tag_same t q)) (only_rows (result q) (finite.get t q))
