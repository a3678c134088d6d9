-- The rows of a rank's output are those of the operator over plain rows; and a rank of no rows.
use Rattle.std.proofs.Common.{◌≡◌, ℕ, ◌≤◌, ◌^◌, true, false, cond, List, [], ◌∷◌, Option, Some, None, length, map, refl, sym, ap, subst, ◌∙◌, arith}
use Rattle.std.specs.List.{filter_map, zip}
use Rattle.std.specs.Option.{option_and_then}
use Rattle.std.specs.FinMap as finite
use Rattle.df_value.specs.Rows.{cell_at}
use Rattle.df_value.specs.Schemas.{column_index}
use Rattle.df_value.specs.declared.cell.Cell.{Cell}
use Rattle.df_value.specs.declared.cell.CellType.{CellType}
use Rattle.df_expr.specs.Value.{is_null}
use Rattle.df_ops.specs.RowWise.{with_column_row}
use Rattle.df_ops.specs.Tables.{rank_table, with_column_table}
use Rattle.df_ops.specs.declared.ranks.RankKind.{RankKind}
use Rattle.df_ops.specs.declared.ranks.RankKind.TheVariants as rank
use Rattle.df_column.specs.TagOrder.{tag_total, tag_same}
use Rattle.df_column.specs.Tables.{TableParts, TaggedRows}
use Rattle.df_column.specs.Tags.{tag_cmp}
use Rattle.df_counts.specs.Counts.{AreCounts, some_count}
use Rattle.df_delta.proofs.Collected.{values-collected}
use Rattle.df_ranks.specs.Nodes.{IsRanked}
use Rattle.df_ranks.specs.Ranked.{rank_of, ranked}
use Rattle.df_ranks.proofs.Outputs.{get_ranked, rank_row}

made : (g : List Cell → List Cell) (rows : List (List Cell)) → filter_map (λ row. Some (g row)) rows ≡ map g rows
made g [] = refl
made g (r ∷ rows) = ap (λ rest. g r ∷ rest) (made g rows)

beside : (h : List Cell → Cell → List Cell) (f : List Cell → Cell) (rows : List (List Cell)) → map (λ r. h r (f r)) rows ≡ map (λ p. h p.0 p.1) (zip rows (map f rows))
beside h f [] = refl
beside h f (r ∷ rows) = ap (λ rest. h r (f r) ∷ rest) (beside h f rows)

pub ranked_rows : (columns : List (List ℕ × CellType)) (name : List ℕ) (kind : RankKind) (column : List ℕ) (t : TaggedRows)
    → finite.values (ranked columns name kind (column_index column columns) t) ≡ (rank_table (record { columns = columns; rows = finite.values t }) name kind column).rows
unfolding rank_table with_column_table
ranked_rows columns name kind column t =
    values-collected (rank_row columns name index (rank_of kind index rows)) t
    ∙ made (λ row. with_column_row columns name row (rank_of kind index rows (cell_at index row))) rows
    ∙ beside (with_column_row columns name) (λ row. rank_of kind index rows (cell_at index row)) rows
    ∙ by_kind kind
  where
    index : Option ℕ
    index = column_index column columns

    rows : List (List Cell)
    rows = finite.values t

    by_kind : (kind : RankKind) → map (λ p. with_column_row columns name p.0 p.1) (zip (finite.values t) (map (λ row. rank_of kind (column_index column columns) (finite.values t) (cell_at (column_index column columns) row)) (finite.values t)))
        ≡ (rank_table (record { columns = columns; rows = finite.values t }) name kind column).rows
    by_kind rank.Dense = refl
    by_kind rank.Min = refl

none_left : {X : Type 0} (xs : List X) → length xs ≡ 0 → xs ≡ []
none_left [] e = refl
none_left (x ∷ xs) e = absurd (omega arith)

no_entries : finite.entries (finite.empty {X = List Cell} {R = tag_cmp}) ≡ []
no_entries = none_left _ (sym (finite.len-entries (finite.empty {X = List Cell} {R = tag_cmp})) ∙ finite.len-empty tag_cmp (List Cell))

-- the rank of no rows
pub ranked_none : (columns : List (List ℕ × CellType)) (name : List ℕ) (kind : RankKind) (index : Option ℕ) → ranked columns name kind index finite.empty ≡ finite.empty
ranked_none columns name kind index = finite.same_map tag_total tag_same _ _ (λ q.
    get_ranked columns name index (rank_of kind index (finite.values (finite.empty {X = List Cell} {R = tag_cmp}))) finite.empty q
    ∙ ap (option_and_then (rank_row columns name index (rank_of kind index (finite.values (finite.empty {X = List Cell} {R = tag_cmp}))))) (finite.get-empty tag_cmp q)
    ∙ sym (finite.get-empty tag_cmp q))

pub over_none : (columns : List (List ℕ × CellType)) (name : List ℕ) (kind : RankKind) (index : Option ℕ) (input output : TableParts) (counts : List (Cell × ℕ)) → input.rows ≡ finite.empty → output.rows ≡ finite.empty → counts ≡ []
    → IsRanked columns name kind index input output counts finite.empty
over_none columns name kind index input output counts rows ranks none = record {
  few = subst (λ n. n ≤ 2 ^ 60) (sym (finite.len-empty tag_cmp (List Cell))) (omega arith);
  rows = rows;
  ranks = ranks ∙ sym (ranked_none columns name kind index);
  values = subst (λ cs. AreCounts cs index (finite.values (finite.empty {X = List Cell} {R = tag_cmp}))) (sym none)
      (subst (λ rs. AreCounts [] index rs) (sym (ap (map (λ e. e.1)) no_entries)) (record { at = λ v. elim (is_null v) as (λ b. None ≡ some_count (cond b 0 0)) [ true ↦ refl | false ↦ refl ] }));
}
