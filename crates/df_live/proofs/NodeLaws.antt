-- The law at each kind of node, from that of its inputs.
use Rattle.std.proofs.Common.{◌≡◌, ℕ, ◌+◌, ◌*◌, ◌≤◌, Bool, true, false, cond, List, [], ◌∷◌, length, map, filter, zero, suc, Some, None, refl, ap, ◌∙◌, arith}
use Rattle.std.specs.Prelude.{IsTrue, slice_get, slice_index_or}
use Rattle.std.specs.FinMap as finite
use Rattle.std.specs.List.{filter_map, cons_option}
use Rattle.df_value.specs.Rows.{cell_at, row_eq, rows_fit}
use Rattle.df_value.specs.Schemas.{Columns, column_index}
use Rattle.df_value.specs.declared.cell.Cell.{Cell}
use Rattle.df_value.specs.declared.cell.CellType.TheVariants as dtype
use Rattle.df_expr.specs.declared.expr.Expr.{Expr}
use Rattle.df_expr.specs.declared.meter.Meter.{Meter}
use Rattle.df_ops.specs.Joins.{columns_of_join, join_indices_of}
use Rattle.df_ops.specs.Groups.{key_of}
use Rattle.df_ops.specs.NamedColumns.{column_indices, with_columns}
use Rattle.df_ops.specs.RowWise.{item_column, keeps, select_row, with_column_row, with_columns_row, with_columns_schema}
use Rattle.df_ops.specs.Tables.{cum_sum_table, filter_table, group_by_columns, group_by_table, join_table, rank_table, rolling_table, select_table, with_columns_table, with_column_table}
use Rattle.df_ops.specs.Windows.{cum_sum_at, rolling_cell, rolling_dtype, window_of}
use Rattle.df_ops.specs.declared.agg.Agg.{Agg}
use Rattle.df_ops.specs.declared.joins.How.{How}
use Rattle.df_ops.specs.declared.plain_table.PlainTable.{PlainTable}
use Rattle.df_ops.specs.declared.ranks.RankKind.{RankKind}
use Rattle.df_ops.specs.declared.windows.RollKind.{RollKind}
use Rattle.df_column.specs.Tables.{TaggedRows}
use Rattle.df_column.specs.Tags.{tag_cmp}
use Rattle.df_delta.specs.Work.{evaluations, no_work}
use Rattle.df_delta.specs.Keyed.{members}
use Rattle.df_delta.proofs.Collected.{values-collected}
use Rattle.df_group.specs.GroupRows.{finished_row, group_output}
use Rattle.df_group.specs.Work.{finishes}
use Rattle.df_group.specs.Grouped.{at_tag, group_entry}
use Rattle.df_group.proofs.KeyOrder.{group_rows}
use Rattle.df_join.specs.Sides.{AreScans}
use Rattle.df_join.specs.Spread.{HasKeys, IsTagOver}
use Rattle.df_join.proofs.JoinRows.{joined_tags, values-join_table}
use Rattle.df_nodes.specs.Outputs.{filtered, mapped, rolled, summed}
use Rattle.df_nodes.specs.Prefixes.{cells_up_to}
use Rattle.df_nodes.specs.Rolling.{windows}
use Rattle.df_nodes.proofs.PrefixLaws.{rolled_rows}
use Rattle.df_nodes.proofs.SameOutputs.{mapped_rows}
use Rattle.df_nodes.proofs.Sums.{summed_rows}
use Rattle.df_ranks.specs.Ranked.{rank_of, ranked}
use Rattle.df_ranks.proofs.RankTables.{ranked_rows}
use Rattle.df_plan.specs.Meaning.{frame_table, frames_fit}
use Rattle.df_plan.proofs.RowWiseSound.{second_of_two}
use Rattle.df_live.specs.Frames.{AreFrames, frame_at, rows_of_frames}
use Rattle.df_live.specs.Lawful.{IsLawful}
use Rattle.df_live.specs.Meaning.{Meaning, over_one, filter_meaning, group_meaning, join_meaning, rank_meaning, rolling_meaning, scan_meaning, select_meaning, sum_meaning, with_columns_meaning}
use Rattle.df_live.proofs.KeptTags.{keys_collected, values_none}

scan_table :
    (schemas : List Columns) (frames : List TaggedRows) → IsTrue (frames_fit schemas (rows_of_frames frames)) → (f : ℕ) →
    ◌≡◌ {A = PlainTable} (record { columns = slice_index_or schemas f []; rows = finite.values (frame_at frames f) })
    (frame_table (slice_get schemas f) (slice_get (rows_of_frames frames) f))
scan_table [] [] fit f = λ i. record { columns = []; rows = values_none i }
scan_table [] (t ∷ ts) fit f = cc fit
scan_table (s ∷ ss) [] fit f = cc fit
scan_table (s ∷ ss) (t ∷ ts) fit zero = refl
scan_table (s ∷ ss) (t ∷ ts) fit (suc f) =
    scan_table ss ts (second_of_two (rows_fit s (finite.values t)) (frames_fit ss (rows_of_frames ts)) fit) f

pub scan_law :
    (schemas : List Columns) (frames : List TaggedRows) (f : ℕ) → AreFrames schemas frames →
    IsLawful frames (scan_meaning schemas f) (frame_table (slice_get schemas f) (slice_get (rows_of_frames frames) f))
scan_law schemas frames f h = record { some = omega arith; table = scan_table schemas frames h.fit f; tags = h.tags f }

kept_filter : (p : List Cell → Bool) (rows : List (List Cell)) → filter_map (λ row. cond (p row) (Some row) None) rows ≡ filter p rows
kept_filter p [] = refl
kept_filter p (r ∷ rows) =
    elim (p r) as (λ b. cons_option (cond b (Some r) None) (filter_map (λ row. cond (p row) (Some row) None) rows) ≡ cond b (r ∷ filter p rows) (filter p rows)) [
      | true ↦ ap (λ rest. r ∷ rest) (kept_filter p rows)
      | false ↦ kept_filter p rows
    ]

module _ (frames : List TaggedRows) (m : Meaning) (t : PlainTable) (h : IsLawful frames m t) where
  abbrev Plain : TaggedRows → PlainTable
  Plain rows = record { columns = m.columns; rows = finite.values rows }

  -- a node of one input, whose rows stand at tags of its input's
  one_law :
      (columns : Columns) (operator : TaggedRows → TaggedRows) (cost : ℕ → Meter) (table : PlainTable → PlainTable) →
      ◌≡◌ {A = PlainTable} (record { columns = columns; rows = finite.values (operator (m.gives frames)) }) (table (Plain (m.gives frames))) →
      (HasKeys (IsTagOver m.scans) (m.gives frames) → HasKeys (IsTagOver m.scans) (operator (m.gives frames))) →
      IsLawful frames (over_one m columns operator cost) (table t)
  one_law columns operator cost table is tags = record { some = h.some; table = is ∙ ap table h.table; tags = tags h.tags }

  filter_is : (p : Expr) (rows : TaggedRows) →
      ◌≡◌ {A = PlainTable} (record { columns = m.columns; rows = finite.values (filtered m.columns p rows) }) (filter_table (Plain rows) p)
  unfolding filter_table
  filter_is p rows = λ i. record {
    columns = m.columns;
    rows = (values-collected (λ row. cond (keeps m.columns p row) (Some row) None) rows ∙ kept_filter (keeps m.columns p) (finite.values rows)) i;
  }

  pub filter_law : (p : Expr) → IsLawful frames (filter_meaning m p) (filter_table t p)
  filter_law p =
      one_law m.columns (filtered m.columns p)
      (λ d. evaluations (2 * d)) (λ t. filter_table t p) (filter_is p (m.gives frames))
      (keys_collected (IsTagOver m.scans) (λ _ row. cond (keeps m.columns p row) (Some row) None) (m.gives frames))

  select_is : (items : List (List ℕ × Expr)) (rows : TaggedRows) →
      ◌≡◌ {A = PlainTable} (record { columns = map (item_column m.columns) items; rows = finite.values (mapped (select_row m.columns items) rows) }) (select_table (Plain rows) items)
  unfolding select_table
  select_is items rows = λ i. record {
    columns = map (item_column m.columns) items;
    rows = mapped_rows (select_row m.columns items) (select_row m.columns items) (λ _. refl) rows i;
  }

  pub select_law : (items : List (List ℕ × Expr)) → IsLawful frames (select_meaning m items) (select_table t items)
  select_law items =
      one_law (map (item_column m.columns) items) (mapped (select_row m.columns items))
      (λ d. evaluations (2 * d * length items)) (λ t. select_table t items) (select_is items (m.gives frames))
      (keys_collected (IsTagOver m.scans) (λ _ row. Some (select_row m.columns items row)) (m.gives frames))

  with_is : (items : List (List ℕ × Expr)) (rows : TaggedRows) →
      ◌≡◌ {A = PlainTable} (record { columns = with_columns_schema m.columns items; rows = finite.values (mapped (with_columns_row m.columns items) rows) }) (with_columns_table (Plain rows) items)
  unfolding with_columns_table
  with_is items rows = λ i. record {
    columns = with_columns_schema m.columns items;
    rows = mapped_rows (with_columns_row m.columns items) (with_columns_row m.columns items) (λ _. refl) rows i;
  }

  pub with_law : (items : List (List ℕ × Expr)) → IsLawful frames (with_columns_meaning m items) (with_columns_table t items)
  with_law items =
      one_law (with_columns_schema m.columns items) (mapped (with_columns_row m.columns items))
      (λ d. evaluations (2 * d * length items)) (λ t. with_columns_table t items) (with_is items (m.gives frames))
      (keys_collected (IsTagOver m.scans) (λ _ row. Some (with_columns_row m.columns items row)) (m.gives frames))

  group_is : (keys : List (List ℕ)) (aggs : List (List ℕ × Agg)) (rows : TaggedRows) →
      ◌≡◌ {A = PlainTable} (record { columns = group_by_columns m.columns keys aggs; rows = finite.values (group_output m.columns (column_indices m.columns keys) aggs rows) })
      (group_by_table (Plain rows) keys aggs)
  unfolding group_by_table
  group_is keys aggs rows = λ i. record { columns = group_by_columns m.columns keys aggs; rows = group_rows m.columns keys aggs rows i }

  pub group_law : (keys : List (List ℕ)) (aggs : List (List ℕ × Agg)) → IsLawful frames (group_meaning m keys aggs) (group_by_table t keys aggs)
  group_law keys aggs =
      let rows = m.gives frames in
      let key = key_of (column_indices m.columns keys) in
      one_law (group_by_columns m.columns keys aggs) (group_output m.columns (column_indices m.columns keys) aggs)
      (λ d. finishes (2 * d)) (λ t. group_by_table t keys aggs) (group_is keys aggs rows)
      (keys_collected (IsTagOver m.scans)
      (λ q row. at_tag tag_cmp q (group_entry (finished_row m.columns aggs) (key row) (finite.entries (members key row_eq (key row) rows)))) rows)

  rolling_is : (name : List ℕ) (kind : RollKind) (column : List ℕ) (w least : ℕ) (rows : TaggedRows) →
      ◌≡◌ {A = PlainTable} (record { columns = with_columns m.columns ((name, rolling_dtype kind) ∷ []); rows = finite.values (rolled m.columns name kind column w least rows) })
      (rolling_table (Plain rows) name kind column w least)
  unfolding rolling_table with_column_table
  rolling_is name kind column w least rows = λ i. record {
    columns = with_columns m.columns ((name, rolling_dtype kind) ∷ []);
    rows = rolled_rows m.columns name kind column w least rows i;
  }

  pub rolling_law : (name : List ℕ) (kind : RollKind) (column : List ℕ) (w least : ℕ) →
      IsLawful frames (rolling_meaning m name kind column w least) (rolling_table t name kind column w least)
  rolling_law name kind column w least =
      let rows = m.gives frames in
      one_law (with_columns m.columns ((name, rolling_dtype kind) ∷ [])) (rolled m.columns name kind column w least)
      (λ d. windows (d * w)) (λ t. rolling_table t name kind column w least) (rolling_is name kind column w least rows)
      (keys_collected (IsTagOver m.scans)
      (λ q row. Some (with_column_row m.columns name row (rolling_cell kind least (window_of w (cells_up_to (column_index column m.columns) rows q))))) rows)

  sum_is : (name column : List ℕ) (rows : TaggedRows) →
      ◌≡◌ {A = PlainTable} (record { columns = with_columns m.columns ((name, dtype.Wide) ∷ []); rows = finite.values (summed m.columns name column rows) })
      (cum_sum_table (Plain rows) name column)
  unfolding cum_sum_table with_column_table
  sum_is name column rows = λ i. record { columns = with_columns m.columns ((name, dtype.Wide) ∷ []); rows = summed_rows m.columns name column rows i }

  pub sum_law : (name column : List ℕ) → IsLawful frames (sum_meaning m name column) (cum_sum_table t name column)
  sum_law name column =
      let rows = m.gives frames in
      one_law (with_columns m.columns ((name, dtype.Wide) ∷ [])) (summed m.columns name column)
      (λ d. no_work) (λ t. cum_sum_table t name column) (sum_is name column rows)
      (keys_collected (IsTagOver m.scans)
      (λ q row. Some (with_column_row m.columns name row (cum_sum_at (cells_up_to (column_index column m.columns) rows q)))) rows)

  rank_is : (name : List ℕ) (kind : RankKind) (column : List ℕ) (rows : TaggedRows) →
      ◌≡◌ {A = PlainTable} (record { columns = with_columns m.columns ((name, dtype.Int) ∷ []); rows = finite.values (ranked m.columns name kind (column_index column m.columns) rows) })
      (rank_table (Plain rows) name kind column)
  unfolding rank_table with_column_table
  rank_is name kind column rows = λ i. record { columns = with_columns m.columns ((name, dtype.Int) ∷ []); rows = ranked_rows m.columns name kind column rows i }

  pub rank_law : (name : List ℕ) (kind : RankKind) (column : List ℕ) → IsLawful frames (rank_meaning m name kind column) (rank_table t name kind column)
  rank_law name kind column =
      let rows = m.gives frames in
      let index = column_index column m.columns in
      one_law (with_columns m.columns ((name, dtype.Int) ∷ [])) (ranked m.columns name kind (column_index column m.columns))
      (λ d. no_work) (λ t. rank_table t name kind column) (rank_is name kind column rows)
      (keys_collected (IsTagOver m.scans)
      (λ _ row. Some (with_column_row m.columns name row (rank_of kind index (finite.values rows) (cell_at index row)))) rows)

join_is :
    (frames : List TaggedRows) (l r : Meaning) (how : How) (keys : List (List ℕ)) (nulls_equal : Bool) → AreScans l.scans r.scans →
    HasKeys (IsTagOver l.scans) (l.gives frames) → HasKeys (IsTagOver r.scans) (r.gives frames) →
    ◌≡◌ {A = PlainTable} (record { columns = columns_of_join l.columns r.columns keys; rows = finite.values ((join_meaning l r how keys nulls_equal).gives frames) })
    (join_table (record { columns = l.columns; rows = finite.values (l.gives frames) }) (record { columns = r.columns; rows = finite.values (r.gives frames) }) how keys nulls_equal)
unfolding join_table
join_is frames l r how keys nulls_equal scans left right = λ i. record {
  columns = columns_of_join l.columns r.columns keys;
  rows = values-join_table l.scans r.scans scans how keys nulls_equal l.columns r.columns (l.gives frames) (r.gives frames) left right i;
}

-- a join of few scans
pub join_law :
    (frames : List TaggedRows) (l r : Meaning) (t u : PlainTable) (how : How) (keys : List (List ℕ)) (nulls_equal : Bool) →
    IsLawful frames l t → IsLawful frames r u → l.scans + r.scans ≤ 3 →
    IsLawful frames (join_meaning l r how keys nulls_equal) (join_table t u how keys nulls_equal)
join_law frames l r t u how keys nulls_equal f g few =
    let scans : AreScans l.scans r.scans = record { left = f.some; right = g.some; both = few } in
    record {
      some = omega (arith, f.some);
      table = join_is frames l r how keys nulls_equal scans f.tags g.tags ∙ (λ i. join_table (f.table i) (g.table i) how keys nulls_equal);
      tags = joined_tags (record { how = how; indices = join_indices_of l.columns r.columns keys nulls_equal }) l.scans r.scans scans (l.gives frames) (r.gives frames) f.tags g.tags;
    }
