-- The tagged rows that a plan means over tagged frames, and what its live nodes may count where the frames become others:
-- a scan gives its frame, and each other node gives what its operator gives of the rows of its input.
use Rattle.std.specs.Prelude.{ℕ, ◌+◌, ◌*◌, Bool, List, [], ◌∷◌, length, map, slice_index_or}
use Rattle.std.specs.FinMap as finite
use Rattle.df_value.specs.Schemas.{Columns, column_index}
use Rattle.df_value.specs.declared.cell.CellType.TheVariants as dtype
use Rattle.df_expr.specs.declared.expr.Expr.{Expr}
use Rattle.df_expr.specs.declared.meter.Meter.{Meter}
use Rattle.df_ops.specs.Joins.{columns_of_join, join_indices_of}
use Rattle.df_ops.specs.NamedColumns.{column_indices, with_columns}
use Rattle.df_ops.specs.RowWise.{item_column, select_row, with_columns_row, with_columns_schema}
use Rattle.df_ops.specs.Tables.{group_by_columns}
use Rattle.df_ops.specs.Windows.{rolling_dtype, size_of}
use Rattle.df_ops.specs.declared.agg.Agg.{Agg}
use Rattle.df_ops.specs.declared.joins.How.{How}
use Rattle.df_ops.specs.declared.ranks.RankKind.{RankKind}
use Rattle.df_ops.specs.declared.windows.RollKind.{RollKind}
use Rattle.df_column.specs.Tables.{TaggedRows}
use Rattle.df_delta.specs.Diff.{diff}
use Rattle.df_delta.specs.SameRows.{same_row}
use Rattle.df_delta.specs.Work.{evaluations, no_work, plus}
use Rattle.df_group.specs.GroupRows.{group_output}
use Rattle.df_group.specs.Work.{finishes}
use Rattle.df_join.specs.Probes.{probes}
use Rattle.df_join.specs.RowNotes.{joined_by_key}
use Rattle.df_join.specs.Sides.{is_one}
use Rattle.df_nodes.specs.Outputs.{filtered, mapped, rolled, summed}
use Rattle.df_nodes.specs.Rolling.{windows}
use Rattle.df_ranks.specs.Ranked.{ranked}
use Rattle.df_plan.specs.declared.plan.Plan.{Plan, fold-Plan}
use Rattle.df_plan.specs.declared.plan.Plan.TheOpen.{Plan-F}
use Rattle.df_live.specs.Frames.{frame_at}

-- the columns of a plan's table and the number of its scans, and of any frames its rows and the allowance of its nodes
pub record Meaning : Type 0 where
  pub columns : Columns
  pub scans : ℕ
  pub gives : List TaggedRows → TaggedRows
  pub work : List TaggedRows → List TaggedRows → Meter

-- the number of tags at which two tables differ
abbrev pub differences : TaggedRows → TaggedRows → ℕ
differences t u = finite.len (diff same_row t u)

abbrev pub scan_meaning : List Columns → ℕ → Meaning
scan_meaning schemas f = record {
  columns = slice_index_or schemas f [];
  scans = 1;
  gives = λ frames. frame_at frames f;
  work = λ frames after. no_work;
}

-- a node of one input, by its columns, what it gives of its input, and what it may count where that differs at so many tags
abbrev pub over_one : Meaning → Columns → (TaggedRows → TaggedRows) → (ℕ → Meter) → Meaning
over_one m columns operator cost = record {
  columns = columns;
  scans = m.scans;
  gives = λ frames. operator (m.gives frames);
  work = λ frames after. plus (m.work frames after) (cost (differences (m.gives frames) (m.gives after)));
}

-- a predicate is evaluated for the old row and for the new one
abbrev pub filter_meaning : Meaning → Expr → Meaning
filter_meaning m p = over_one m m.columns (filtered m.columns p) (λ d. evaluations (2 * d))

-- each item is evaluated for the old row and for the new one
abbrev pub select_meaning : Meaning → List (List ℕ × Expr) → Meaning
select_meaning m items =
    over_one m (map (item_column m.columns) items) (mapped (select_row m.columns items)) (λ d. evaluations (2 * d * length items))

abbrev pub with_columns_meaning : Meaning → List (List ℕ × Expr) → Meaning
with_columns_meaning m items =
    over_one m (with_columns_schema m.columns items) (mapped (with_columns_row m.columns items)) (λ d. evaluations (2 * d * length items))

-- the groups of the old row and of the new one are finished
abbrev pub group_meaning : Meaning → List (List ℕ) → List (List ℕ × Agg) → Meaning
group_meaning m keys aggregates =
    over_one m (group_by_columns m.columns keys aggregates) (group_output m.columns (column_indices m.columns keys) aggregates) (λ d. finishes (2 * d))

-- the windows that end at the changed row and at those behind it in whose windows it stands
abbrev pub rolling_meaning : Meaning → List ℕ → RollKind → List ℕ → ℕ → ℕ → Meaning
rolling_meaning m name kind column w least =
    over_one m (with_columns m.columns ((name, rolling_dtype kind) ∷ [])) (rolled m.columns name kind column w least) (λ d. windows (d * w))

abbrev pub sum_meaning : Meaning → List ℕ → List ℕ → Meaning
sum_meaning m name column = over_one m (with_columns m.columns ((name, dtype.Wide) ∷ [])) (summed m.columns name column) (λ d. no_work)

abbrev pub rank_meaning : Meaning → List ℕ → RankKind → List ℕ → Meaning
rank_meaning m name kind column =
    over_one m (with_columns m.columns ((name, dtype.Int) ∷ [])) (ranked m.columns name kind (column_index column m.columns)) (λ d. no_work)

-- both sides' differences are looked up
abbrev pub join_meaning : Meaning → Meaning → How → List (List ℕ) → Bool → Meaning
join_meaning l r how keys nulls_equal = record {
  columns = columns_of_join l.columns r.columns keys;
  scans = l.scans + r.scans;
  gives = λ frames.
      joined_by_key (is_one l.scans) (record { how = how; indices = join_indices_of l.columns r.columns keys nulls_equal })
      (l.gives frames) (r.gives frames);
  work = λ frames after.
      plus (l.work frames after)
      (plus (r.work frames after)
      (probes (8 * (differences (l.gives frames) (l.gives after) + differences (r.gives frames) (r.gives after)))));
}

-- one node, from its inputs
abbrev pub meaning_step : List Columns → Plan-F Meaning → Meaning
meaning_step schemas (Plan-F.Scan f) = scan_meaning schemas f
meaning_step schemas (Plan-F.Filter m p) = filter_meaning m p
meaning_step schemas (Plan-F.Select m items) = select_meaning m items
meaning_step schemas (Plan-F.WithColumns m items) = with_columns_meaning m items
meaning_step schemas (Plan-F.GroupBy m keys aggregates) = group_meaning m keys aggregates
meaning_step schemas (Plan-F.Join l r how keys nulls_equal) = join_meaning l r how keys nulls_equal
meaning_step schemas (Plan-F.Rolling m name kind column w least) = rolling_meaning m name kind column (size_of w) (size_of least)
meaning_step schemas (Plan-F.CumSum m name column) = sum_meaning m name column
meaning_step schemas (Plan-F.Rank m name kind column) = rank_meaning m name kind column

-- what a plan means over frames of these schemas
abbrev pub meaning : List Columns → Plan → Meaning
meaning schemas p = fold-Plan Meaning (meaning_step schemas) p
