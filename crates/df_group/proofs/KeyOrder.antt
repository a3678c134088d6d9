-- The keys of a group-by, in the order of their first rows.
use Rattle.std.proofs.Common.{◌≡◌, Bool, true, false, not, cond, List, [], ◌∷◌, ◌++◌, map, refl, sym, ap, ◌∙◌, append-nil, append_assoc}
use Rattle.std.specs.Prelude.{◌&&◌}
use Rattle.std.specs.List.{list_any, filter}
use Rattle.std.specs.FinMap as finite
use Rattle.df_value.specs.declared.cell.Cell.{Cell}
use Rattle.df_value.specs.declared.cell.CellType.{CellType}
use Rattle.df_value.specs.Rows.{row_eq}
use Rattle.df_value.specs.RowEq.{row_eq-Decides, row_eq-equivalence}
use Rattle.df_column.specs.TagOrder.{tag_total}
use Rattle.df_column.specs.Tables.{TaggedRows}
use Rattle.df_ops.specs.Groups.{distinct_after, key_of}
use Rattle.df_ops.specs.NamedColumns.{column_indices}
use Rattle.df_ops.specs.Tables.{group_by_rows, group_by_table}
use Rattle.df_ops.specs.declared.agg.Agg.{Agg}
use Rattle.df_group.specs.GroupRows.{finished_row, group_output}
use Rattle.df_group.proofs.Appearance.{any_append, filter-both, keys_in_order, not_or, values-grouped}
use Rattle.std.proofs.Common.{ℕ}

abbrev unseen : List (List Cell) → List Cell → Bool
unseen seen g = not (list_any (row_eq g) seen)

-- what equals a key that was seen was seen
seen_too : (seen : List (List Cell)) (x g : List Cell) → list_any (row_eq x) seen ≡ true → unseen seen g ≡ (unseen seen g && not (row_eq x g))
seen_too seen x g s = elim (row_eq x g) as (λ b. row_eq x g ≡ b → unseen seen g ≡ (unseen seen g && not b)) [
  | true ↦ λ e. let is : unseen seen g ≡ false = ap (λ k. not (list_any (row_eq k) seen)) (sym ((row_eq-Decides x g).0 e)) ∙ ap not s in
      is ∙ sym (ap (λ b. b && false) is)
  | false ↦ λ e. and_true (unseen seen g)
] refl
  where
    and_true : (b : Bool) → b ≡ (b && true)
    and_true true = refl
    and_true false = refl

one_more : (seen : List (List Cell)) (x g : List Cell) → unseen (seen ++ x ∷ []) g ≡ (unseen seen g && not (row_eq x g))
one_more seen x g =
    ap not (any_append (row_eq g) seen x)
    ∙ not_or (list_any (row_eq g) seen) (row_eq g x)
    ∙ ap (λ b. unseen seen g && not b) (row_eq-equivalence.symm g x)

module _ (key : List Cell → List Cell) where
  abbrev in_order : List (List Cell) → List (List Cell)
  in_order xs = keys_in_order key row_eq xs

  distinct_is : (seen xs : List (List Cell)) → distinct_after seen (map key xs) ≡ seen ++ filter (unseen seen) (in_order xs)
  distinct_is seen [] = sym (append-nil seen)
  distinct_is seen (x ∷ xs) =
      let others = filter (λ g. not (row_eq (key x) g)) (in_order xs) in
      elim (list_any (row_eq (key x)) seen) as (λ b. list_any (row_eq (key x)) seen ≡ b → cond b (distinct_after seen (map key xs)) (distinct_after (seen ++ key x ∷ []) (map key xs)) ≡ seen ++ cond (not b) (key x ∷ filter (unseen seen) others) (filter (unseen seen) others)) [
        | true ↦ λ s. distinct_is seen xs ∙ ap (λ l. seen ++ l) (filter-both (unseen seen) (λ g. not (row_eq (key x) g)) (unseen seen) (λ g. seen_too seen (key x) g s) (in_order xs))
        | false ↦ λ s. distinct_is (seen ++ key x ∷ []) xs
            ∙ ap (λ l. (seen ++ key x ∷ []) ++ l) (filter-both (unseen seen) (λ g. not (row_eq (key x) g)) (unseen (seen ++ key x ∷ [])) (λ g. one_more seen (key x) g) (in_order xs))
            ∙ append_assoc seen (key x ∷ []) (filter (unseen seen) others)
      ] refl

  all_kept : (xs : List (List Cell)) → filter (unseen []) xs ≡ xs
  all_kept [] = refl
  all_kept (x ∷ xs) = ap (λ l. x ∷ l) (all_kept xs)

  pub same_keys : (xs : List (List Cell)) → in_order xs ≡ distinct_after [] (map key xs)
  same_keys xs = sym (distinct_is [] xs ∙ all_kept (in_order xs))

-- the rows of the output are those of a group-by of the rows
pub group_rows : (columns : List (List ℕ × CellType)) (keys : List (List ℕ)) (aggregates : List (List ℕ × Agg)) (t : TaggedRows)
    → finite.values (group_output columns (column_indices columns keys) aggregates t) ≡ group_by_rows (record { columns = columns; rows = finite.values t }) keys aggregates
group_rows columns keys aggregates t =
    let indices = column_indices columns keys in
    values-grouped tag_total (key_of indices) row_eq (λ a. (row_eq-Decides a a).1 refl) (finished_row columns aggregates) t
    ∙ ap (map (λ k. finished_row columns aggregates k (filter (λ r. row_eq (key_of indices r) k) (finite.values t)))) (same_keys (key_of indices) (finite.values t))

pub group_table_rows : (columns : List (List ℕ × CellType)) (keys : List (List ℕ)) (aggregates : List (List ℕ × Agg)) (t : TaggedRows)
    → finite.values (group_output columns (column_indices columns keys) aggregates t) ≡ (group_by_table (record { columns = columns; rows = finite.values t }) keys aggregates).rows
unfolding group_by_table
group_table_rows columns keys aggregates t = group_rows columns keys aggregates t
