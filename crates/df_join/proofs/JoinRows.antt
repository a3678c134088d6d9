-- The join of two tables gives the rows that the operator gives of their rows.
use Rattle.std.proofs.Common.{◌≡◌, ◌+◌, ℕ, Bool, true, false, cond, not, List, [], ◌∷◌, ◌++◌, map, Some, None, refl, ap, subst, ◌∙◌}
use Rattle.std.specs.Prelude.{◌||◌, ◌&&◌}
use Rattle.std.specs.List.{flat_map, filter, list_any}
use Rattle.std.specs.FinMap as finite
use Rattle.df_value.specs.Rows.{row_eq}
use Rattle.df_value.specs.Schemas.{Columns}
use Rattle.df_column.specs.Tables.{TaggedRows}
use Rattle.df_expr.specs.Value.{is_null}
use Rattle.df_ops.specs.Groups.{key_of}
use Rattle.df_ops.specs.Joins.{join_indices_of, join_row, join_rows, keys_match, left_beside, matches_of, nulls_for}
use Rattle.df_ops.specs.Tables.{join_table}
use Rattle.df_ops.specs.declared.joins.How.{How}
use Rattle.df_ops.specs.declared.joins.How.TheVariants as how
use Rattle.df_join.specs.Joined.{join, matches, or_alone}
use Rattle.df_join.specs.Rules.{Cells, by_key, joined_row, key_or_null}
use Rattle.df_join.specs.RowNotes.{joined_by_key}
use Rattle.df_join.specs.Sides.{AreScans, is_one}
use Rattle.df_join.specs.Spread.{HasKeys, IsLeftTag, IsRightTag, IsTagOver}
use Rattle.df_join.specs.declared.rule.JoinRule.{JoinRule}
use Rattle.df_join.proofs.Groups.{row_yes, swap}
use Rattle.df_join.proofs.Joined.{rows_of-joined}
use Rattle.df_join.proofs.Shape.{joined_keys, left_keys, right_keys}

module _ (rule : JoinRule) where
  matches_from : (n : Bool) (a b : Cells) (p q : Bool) → list_any is_null a ≡ p → list_any is_null b ≡ q
      → matches row_eq (cond (not n && p) None (Some a)) (cond (not n && q) None (Some b)) ≡ (row_eq b a && (n || not p))
  matches_from true a b p q ep eq = swap a b ∙ anded (row_eq b a)
    where
      anded : (c : Bool) → c ≡ (c && true)
      anded true = refl
      anded false = refl
  matches_from false a b true q ep eq = nothing (row_eq b a)
    where
      nothing : (c : Bool) → false ≡ (c && false)
      nothing true = refl
      nothing false = refl
  matches_from false a b false true ep eq = elim (row_eq b a) as (λ c. row_eq b a ≡ c → false ≡ (c && true)) [
    | true ↦ λ e. let both : list_any is_null a ≡ true = subst (λ x. list_any is_null x ≡ true) (row_yes b a e) eq in cc (ep, both)
    | false ↦ λ e. refl
  ] refl
  matches_from false a b false false ep eq = swap a b ∙ anded (row_eq b a)
    where
      anded : (c : Bool) → c ≡ (c && true)
      anded true = refl
      anded false = refl

  -- keys match as the operator says
  pub matches_is : (a b : Cells) → matches row_eq (key_or_null rule a) (key_or_null rule b) ≡ keys_match rule.indices.nulls_equal a b
  matches_is a b = matches_from rule.indices.nulls_equal a b (list_any is_null a) (list_any is_null b) refl refl

  beside_is : (h : How) (x : Cells) (ys : List Cells) → or_alone (by_key (record { how = h; indices = rule.indices })) x (map (λ y. joined_row rule x (Some y)) ys) ≡ left_beside h x (nulls_for rule.indices.rest) (map (key_of rule.indices.rest) ys)
  beside_is how.Inner x [] = refl
  beside_is how.Left x [] = refl
  beside_is how.Inner x (y ∷ ys) = ap (λ zs. (x ++ key_of rule.indices.rest y) ∷ zs) (pairs x ys)
    where
      pairs : (x : Cells) (ys : List Cells) → map (λ y. joined_row rule x (Some y)) ys ≡ map (λ q. x ++ q) (map (key_of rule.indices.rest) ys)
      pairs x [] = refl
      pairs x (y ∷ ys) = ap (λ zs. (x ++ key_of rule.indices.rest y) ∷ zs) (pairs x ys)
  beside_is how.Left x (y ∷ ys) = ap (λ zs. (x ++ key_of rule.indices.rest y) ∷ zs) (pairs x ys)
    where
      pairs : (x : Cells) (ys : List Cells) → map (λ y. joined_row rule x (Some y)) ys ≡ map (λ q. x ++ q) (map (key_of rule.indices.rest) ys)
      pairs x [] = refl
      pairs x (y ∷ ys) = ap (λ zs. (x ++ key_of rule.indices.rest y) ∷ zs) (pairs x ys)

  row_is : (ys : List Cells) (x : Cells) → or_alone (by_key rule) x (map (λ y. joined_row rule x (Some y)) (filter (λ y. matches row_eq (key_or_null rule (key_of rule.indices.left x)) (key_or_null rule (key_of rule.indices.right y))) ys)) ≡ join_row rule.how rule.indices ys x
  unfolding join_row
  row_is ys x =
      (λ i. or_alone (by_key rule) x (map (λ y. joined_row rule x (Some y)) (filter (λ y. matches_is (key_of rule.indices.left x) (key_of rule.indices.right y) i) ys)))
      ∙ beside_is rule.how x (matches_of rule.indices.nulls_equal rule.indices.right (key_of rule.indices.left x) ys)

  pub join_is : (xs ys : List Cells) → join (by_key rule) xs ys ≡ join_rows rule.how rule.indices xs ys
  join_is xs ys = λ i. flat_map (λ x. row_is ys x i) xs

  -- the rows of the join of tagged rows
  pub values-join : (one : Bool) (l r : TaggedRows) → HasKeys (IsLeftTag one) l → HasKeys (IsRightTag one) r → finite.values (joined_by_key one rule l r) ≡ join_rows rule.how rule.indices (finite.values l) (finite.values r)
  values-join one l r left right = rows_of-joined (by_key rule) one l r left right ∙ join_is (finite.values l) (finite.values r)

-- the same of tables, with their column indices
pub values-join_table : (a b : ℕ) → AreScans a b → (h : How) (keys : List (List ℕ)) (nulls_equal : Bool) (left right : Columns) (l r : TaggedRows) → HasKeys (IsTagOver a) l → HasKeys (IsTagOver b) r
    → finite.values (joined_by_key (is_one a) (record { how = h; indices = join_indices_of left right keys nulls_equal }) l r)
    ≡ (join_table (record { columns = left; rows = finite.values l }) (record { columns = right; rows = finite.values r }) h keys nulls_equal).rows
unfolding join_table
values-join_table a b scans h keys nulls_equal left right l r left_tags right_tags =
    let rule : JoinRule = record { how = h; indices = join_indices_of left right keys nulls_equal } in
    values-join rule (is_one a) l r
    (left_keys (by_key rule) a b scans.left scans.right scans.both l r left_tags right_tags)
    (right_keys (by_key rule) a b scans.left scans.right scans.both l r left_tags right_tags)

pub joined_tags : (rule : JoinRule) (a b : ℕ) → AreScans a b → (l r : TaggedRows) → HasKeys (IsTagOver a) l → HasKeys (IsTagOver b) r → HasKeys (IsTagOver (a + b)) (joined_by_key (is_one a) rule l r)
joined_tags rule a b scans l r left_tags right_tags = joined_keys (by_key rule) a b scans.left scans.right scans.both l r left_tags right_tags
