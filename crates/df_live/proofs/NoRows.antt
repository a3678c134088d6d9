-- Over empty frames a plan gives no rows.
use Rattle.std.proofs.Common.{◌≡◌, cond, Some, None, List, subst, ap, ◌∙◌}
use Rattle.std.specs.FinMap as finite
use Rattle.df_value.specs.Rows.{cell_at, row_eq}
use Rattle.df_value.specs.Schemas.{Columns, column_index}
use Rattle.df_ops.specs.Groups.{key_of}
use Rattle.df_ops.specs.Joins.{join_indices_of}
use Rattle.df_ops.specs.NamedColumns.{column_indices}
use Rattle.df_ops.specs.RowWise.{keeps, select_row, with_column_row, with_columns_row}
use Rattle.df_ops.specs.Windows.{cum_sum_at, rolling_cell, size_of, window_of}
use Rattle.df_column.specs.Tables.{TaggedRows}
use Rattle.df_column.specs.Tags.{tag_cmp}
use Rattle.df_delta.specs.Keyed.{members}
use Rattle.df_group.specs.GroupRows.{finished_row, group_output}
use Rattle.df_group.specs.Grouped.{at_tag, group_entry}
use Rattle.df_join.specs.RowNotes.{joined_by_key}
use Rattle.df_join.specs.Sides.{is_one}
use Rattle.df_join.specs.declared.rule.JoinRule.{JoinRule}
use Rattle.df_nodes.specs.Outputs.{filtered, mapped, rolled, summed}
use Rattle.df_nodes.specs.Prefixes.{cells_up_to}
use Rattle.df_ranks.specs.Ranked.{rank_of, ranked}
use Rattle.df_plan.specs.declared.plan.Plan.{Plan}
use Rattle.df_plan.specs.declared.plan.Plan.TheOpen.{Plan-F}
use Rattle.df_plan.specs.declared.plan.Plan.TheFolds.{fold-roll-Plan, ind-Plan, map-Plan}
use Rattle.df_plan.specs.declared.plan.Plan.TheViews.{roll-Plan}
use Rattle.df_live.specs.Fresh.{AreEmpty}
use Rattle.df_live.specs.Meaning.{Meaning, meaning, meaning_step}
use Rattle.df_live.proofs.KeptTags.{collected_none, joined_none}

module _ (schemas : List Columns) (frames : List TaggedRows) (empty : AreEmpty frames) where
  abbrev GivesNone : Plan → Type 0
  GivesNone p = (meaning schemas p).gives frames ≡ finite.empty

  abbrev Held : Type 0
  Held = (p : Plan) × GivesNone p

  abbrev mean : Held → Meaning
  mean a = meaning schemas a.0

  abbrev none : TaggedRows
  none = finite.empty

  none_step : (y : Plan-F Held) → GivesNone (roll-Plan (map-Plan Held Plan (λ p. p.0) y))
  none_step (Plan-F.Scan f) = rw (fold-roll-Plan Meaning (meaning_step schemas)) (empty.at f)
  none_step (Plan-F.Filter a p) =
      rw (fold-roll-Plan Meaning (meaning_step schemas))
      (ap (filtered (mean a).columns p) a.1 ∙ collected_none (λ _ row. cond (keeps (mean a).columns p row) (Some row) None))
  none_step (Plan-F.Select a items) =
      rw (fold-roll-Plan Meaning (meaning_step schemas))
      (ap (mapped (select_row (mean a).columns items)) a.1 ∙ collected_none (λ _ row. Some (select_row (mean a).columns items row)))
  none_step (Plan-F.WithColumns a items) =
      rw (fold-roll-Plan Meaning (meaning_step schemas))
      (ap (mapped (with_columns_row (mean a).columns items)) a.1 ∙ collected_none (λ _ row. Some (with_columns_row (mean a).columns items row)))
  none_step (Plan-F.GroupBy a keys aggs) =
      let columns = (mean a).columns in
      let key = key_of (column_indices columns keys) in
      rw (fold-roll-Plan Meaning (meaning_step schemas))
      (ap (group_output columns (column_indices columns keys) aggs) a.1
      ∙ collected_none (λ q row. at_tag tag_cmp q (group_entry (finished_row columns aggs) (key row) (finite.entries (members key row_eq (key row) none)))))
  none_step (Plan-F.Join a b how keys nulls_equal) =
      let rule : JoinRule = record { how = how; indices = join_indices_of (mean a).columns (mean b).columns keys nulls_equal } in
      rw (fold-roll-Plan Meaning (meaning_step schemas))
      ((λ i. joined_by_key (is_one (mean a).scans) rule (a.1 i) (b.1 i)) ∙ joined_none (is_one (mean a).scans) rule)
  none_step (Plan-F.Rolling a name k column w m) =
      let columns = (mean a).columns in
      rw (fold-roll-Plan Meaning (meaning_step schemas))
      (ap (rolled columns name k column (size_of w) (size_of m)) a.1
      ∙ collected_none (λ q row. Some (with_column_row columns name row (rolling_cell k (size_of m) (window_of (size_of w) (cells_up_to (column_index column columns) none q))))))
  none_step (Plan-F.CumSum a name column) =
      let columns = (mean a).columns in
      rw (fold-roll-Plan Meaning (meaning_step schemas))
      (ap (summed columns name column) a.1
      ∙ collected_none (λ q row. Some (with_column_row columns name row (cum_sum_at (cells_up_to (column_index column columns) none q)))))
  none_step (Plan-F.Rank a name k column) =
      let columns = (mean a).columns in
      let index = column_index column columns in
      rw (fold-roll-Plan Meaning (meaning_step schemas))
      (ap (ranked columns name k index) a.1
      ∙ collected_none (λ _ row. Some (with_column_row columns name row (rank_of k index (finite.values none) (cell_at index row)))))

  pub gives_none : (p : Plan) → (meaning schemas p).gives frames ≡ finite.empty
  gives_none = ind-Plan GivesNone (λ x y is. subst (λ z. GivesNone (roll-Plan z)) is (none_step y))
