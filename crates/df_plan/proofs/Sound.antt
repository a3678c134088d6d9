-- The rows that a checked plan gives fit the schema that the check found.
use Rattle.std.proofs.Common.{◌≡◌, ℕ, ◌∙◌, Bool, true, zero, suc, List, [], ◌∷◌, ◌++◌, map, refl, ap, sym, subst}
use Rattle.std.specs.Prelude.{ℤ, IsTrue, Ok, Option, Some, None, ◌&&◌, slice_get, unwrap_or}
use Rattle.std.specs.List.{list_any, list_all, AllByRecursion}
use Rattle.std.proofs.lemmas.List.Folds.{list_all-append}
use Rattle.df_value.specs.declared.cell.Cell.{Cell}
use Rattle.df_value.specs.declared.cell.CellType.{CellType}
use Rattle.df_value.specs.declared.cell.CellType.TheVariants as dtype
use Rattle.df_value.specs.Cells.{fits_dtype}
use Rattle.df_value.specs.Rows.{row_fits, rows_fit, row_eq, cell_at}
use Rattle.df_value.specs.Schemas.{column_dtype, column_index, doubled_column_after}
use Rattle.df_ops.specs.Groups.{key_of, keys_of, group_of, distinct_after}
use Rattle.df_ops.specs.declared.plain_table.PlainTable.{PlainTable}
use Rattle.df_ops.specs.Tables.{key_column, aggregate_column, aggregate_cell, group_by_columns, group_by_table, group_by_rows, group_row, filter_table, select_table, with_columns_table, join_table, with_column_table, rolling_table, cum_sum_table, rank_table}
use Rattle.df_ops.specs.NamedColumns.{column_indices}
use Rattle.df_plan.specs.Meaning.{frame_table, frames_fit, table_step, table_of}
use Rattle.df_ops.specs.RowWise.{item_column, keeps, filter_rows, select_row, with_columns_row, with_columns_schema, with_column_rows}
use Rattle.df_expr.specs.declared.expr.Expr.{Expr}
use Rattle.df_plan.proofs.ItemKinds.{HasKind}
use Rattle.df_value.specs.Schemas.{Columns}
use Rattle.df_plan.specs.ItemChecks.{CheckResult, expr_dtype_check}
use Rattle.df_value.specs.Outcomes.{then_next}
use Rattle.df_plan.specs.Checks.{filter_check, select_check, with_columns_check, group_by_check, frame_check, check_step, columns_of, plan_check}
use Rattle.df_plan.specs.JoinChecks.{join_check}
use Rattle.df_ops.specs.Joins.{columns_of_join, join_rows, join_indices_of}
use Rattle.df_ops.specs.declared.agg.Agg.{Agg}
use Rattle.df_ops.specs.declared.joins.How.{How}
use Rattle.df_ops.specs.declared.ranks.RankKind.{RankKind}
use Rattle.df_ops.specs.declared.windows.RollKind.{RollKind}
use Rattle.df_ops.specs.Aggregates.{cells_of}
use Rattle.df_ops.specs.NamedColumns.{with_columns}
use Rattle.df_ops.specs.Ranks.{ranks_of}
use Rattle.df_plan.specs.WindowChecks.{rolling_check, cum_sum_check, rank_check}
use Rattle.df_ops.specs.Windows.{rolling_dtype}
use Rattle.df_ops.specs.Windows.{rolling_cells, cum_sum, size_of}
use Rattle.df_plan.proofs.WindowSound.{IsPut, IsWhole, puts_fit, rolled_fits, sums_fit, ranks_fit, roll_found, cum_sum_found, rank_found}
use Rattle.df_plan.specs.declared.plan.Plan.{Plan}
use Rattle.df_plan.specs.declared.plan.Plan.TheOpen.{Plan-F}
use Rattle.df_plan.specs.declared.plan.Plan.TheFolds.{fold-roll-Plan, ind-Plan, map-Plan}
use Rattle.df_plan.specs.declared.plan.Plan.TheViews.{roll-Plan}
use Rattle.df_value.specs.Choices.{either}
use Rattle.df_plan.proofs.ColumnsFit.{column_fits, fits_both}
use Rattle.df_plan.proofs.JoinSound.{joined_fits}
use Rattle.df_ops.proofs.FitCells.{cells_fit}
use Rattle.df_plan.proofs.AggregatesFit.{aggregate_fits}
use Rattle.df_plan.proofs.Found.{IsTaken, IsColumn, then_ok, filter_found, select_found, with_found, group_found, join_found, checked_columns}
use Rattle.df_plan.proofs.RowWiseSound.{first_of_two, second_of_two, both_true, map_all, filter_all, selected_fit, added_fit}

abbrev Rows : Type 0
Rows = List (List Cell)

key_fits_at :
    (o : Option CellType) (t : CellType) (v : Cell) → o ≡ Some t → IsTrue (fits_dtype t v) → IsTrue (fits_dtype (unwrap_or o dtype.Int) v)
key_fits_at o t v e h = rw e h

-- the key of a row that fits
key_fits :
    (columns : Columns) (row : List Cell) → IsTrue (row_fits columns row) → (names : List (List ℕ)) → AllByRecursion (IsColumn columns) names →
    IsTrue (row_fits (map (key_column columns) names) (key_of (column_indices columns names) row))
key_fits columns row fits [] h = refl
key_fits columns row fits (name ∷ names) h =
    both_true (fits_dtype (unwrap_or (column_dtype name columns) dtype.Int) (cell_at (column_index name columns) row)) _
    (key_fits_at (column_dtype name columns) h.0.0 _ h.0.1 (column_fits columns row fits name h.0.0 h.0.1))
    (key_fits columns row fits names h.1)

aggregate_fits_column :
    (columns : Columns) (rows : Rows) → IsTrue (rows_fit columns rows) → (a : List ℕ × Agg) → IsTaken columns a →
    IsTrue (fits_dtype (aggregate_column columns a).1 (aggregate_cell columns rows a.1))
aggregate_fits_column columns rows fit a taken =
    let is = aggregate_fits columns rows fit a.1 taken.0 taken.1 in
    subst (λ (t : CellType). IsTrue (fits_dtype t (aggregate_cell columns rows a.1))) is.0 is.1

aggregates_fit :
    (columns : Columns) (rows : Rows) → IsTrue (rows_fit columns rows) → (aggs : List (List ℕ × Agg)) → AllByRecursion (IsTaken columns) aggs →
    IsTrue (row_fits (map (aggregate_column columns) aggs) (map (λ a. aggregate_cell columns rows a.1) aggs))
aggregates_fit columns rows fit [] h = refl
aggregates_fit columns rows fit (a ∷ as') h =
    both_true (fits_dtype (aggregate_column columns a).1 (aggregate_cell columns rows a.1)) _
    (aggregate_fits_column columns rows fit a h.0) (aggregates_fit columns rows fit as' h.1)

-- what holds of all rows holds of the distinct ones
distinct_all :
    (p : List Cell → Bool) (seen rs : Rows) → IsTrue (list_all p seen) → IsTrue (list_all p rs) →
    IsTrue (list_all p (distinct_after seen rs))
distinct_all p seen [] h k = h
distinct_all p seen (r ∷ rs) h k =
    either (λ ks. IsTrue (list_all p ks)) (list_any (row_eq r) seen) _ _
    (distinct_all p seen rs h (second_of_two (p r) (list_all p rs) k))
    (distinct_all p (seen ++ r ∷ []) rs
    (list_all-append p seen (r ∷ []) ∙ both_true (list_all p seen) (p r && true) h (both_true (p r) true (first_of_two (p r) (list_all p rs) k) refl))
    (second_of_two (p r) (list_all p rs) k))

-- the rows of a group-by fit its columns
pub groups_fit :
    (t : PlainTable) (keys : List (List ℕ)) (aggs : List (List ℕ × Agg)) → AllByRecursion (IsColumn t.columns) keys → AllByRecursion (IsTaken t.columns) aggs →
    IsTrue (rows_fit t.columns t.rows) → IsTrue (rows_fit (group_by_columns t.columns keys aggs) (group_by_rows t keys aggs))
groups_fit t keys aggs named taken fit =
    let places = column_indices t.columns keys in
    let key_columns = map (key_column t.columns) keys in
    let of_rows : IsTrue (list_all (row_fits key_columns) (map (key_of places) t.rows)) =
    map_all (row_fits t.columns) (row_fits key_columns) (key_of places) (λ r h. key_fits t.columns r h keys named) t.rows fit in
    let of_keys : IsTrue (list_all (row_fits key_columns) (keys_of places t.rows)) =
    distinct_all (row_fits key_columns) [] (map (key_of places) t.rows) refl of_rows in
    map_all (row_fits key_columns) (row_fits (group_by_columns t.columns keys aggs)) (group_row t.columns places aggs t.rows)
    (λ k h. fits_both key_columns (map (aggregate_column t.columns) aggs) k _ h
    (aggregates_fit t.columns (group_of places t.rows k) (filter_all (row_fits t.columns) (λ r. row_eq (key_of places r) k) t.rows fit) aggs taken))
    (keys_of places t.rows) of_keys

-- what holds of a table whose columns a check found
abbrev HasRows : CheckResult → PlainTable → Type 0
HasRows c t = (cs : Columns) → c ≡ Ok cs → (t.columns ≡ cs) × IsTrue (rows_fit cs t.rows)

group_has_rows :
    (c : CheckResult) (t : PlainTable) (keys : List (List ℕ)) (aggs : List (List ℕ × Agg)) → HasRows c t →
    HasRows (then_next c (λ columns. group_by_check columns keys aggs)) (group_by_table t keys aggs)
unfolding group_by_table
group_has_rows c t keys aggs of_input cs h =
    let input = then_ok c (λ columns. group_by_check columns keys aggs) cs h in
    let has = of_input input.0 input.1.0 in
    let found = group_found input.0 keys aggs cs input.1.1 in
    let named = subst (λ (columns : Columns). AllByRecursion (IsColumn columns) keys) (sym has.0) found.1.0 in
    let taken = subst (λ (columns : Columns). AllByRecursion (IsTaken columns) aggs) (sym has.0) found.1.1 in
    let is : group_by_columns t.columns keys aggs ≡ cs = ap (λ (columns : Columns). group_by_columns columns keys aggs) has.0 ∙ sym found.0 in
    let fit = subst (λ (columns : Columns). IsTrue (rows_fit columns t.rows)) (sym has.0) has.1 in
    (is, subst (λ (columns : Columns). IsTrue (rows_fit columns (group_by_rows t keys aggs))) is (groups_fit t keys aggs named taken fit))

filter_has_rows :
    (c : CheckResult) (t : PlainTable) (p : Expr) → HasRows c t →
    HasRows (then_next c (λ columns. filter_check columns (expr_dtype_check p columns))) (filter_table t p)
unfolding filter_table
filter_has_rows c t p of_input cs h =
    let input = then_ok c (λ columns. filter_check columns (expr_dtype_check p columns)) cs h in
    let has = of_input input.0 input.1.0 in
    let is : input.0 ≡ cs = sym (filter_found input.0 (expr_dtype_check p input.0) cs input.1.1) in
    let fit = filter_all (row_fits input.0) (keeps t.columns p) t.rows has.1 in
    (has.0 ∙ is, subst (λ (columns : Columns). IsTrue (rows_fit columns (filter_rows t.columns p t.rows))) is fit)

select_has_rows :
    (c : CheckResult) (t : PlainTable) (items : List (List ℕ × Expr)) → HasRows c t →
    HasRows (then_next c (λ columns. select_check columns items)) (select_table t items)
unfolding select_table
select_has_rows c t items of_input cs h =
    let input = then_ok c (λ columns. select_check columns items) cs h in
    let has = of_input input.0 input.1.0 in
    let found = select_found input.0 items cs input.1.1 in
    let typed = subst (λ (columns : Columns). AllByRecursion (HasKind columns) items) (sym has.0) found.1 in
    let is : map (item_column t.columns) items ≡ cs = ap (λ (columns : Columns). map (item_column columns) items) has.0 ∙ sym found.0 in
    let fit = subst (λ (columns : Columns). IsTrue (rows_fit columns t.rows)) (sym has.0) has.1 in
    let rows = map_all (row_fits t.columns) (row_fits (map (item_column t.columns) items)) (select_row t.columns items)
    (λ r k. selected_fit t.columns r k items typed) t.rows fit in
    (is, subst (λ (columns : Columns). IsTrue (rows_fit columns (map (select_row t.columns items) t.rows))) is rows)

with_has_rows :
    (c : CheckResult) (t : PlainTable) (items : List (List ℕ × Expr)) → HasRows c t →
    HasRows (then_next c (λ columns. with_columns_check columns items)) (with_columns_table t items)
unfolding with_columns_table
with_has_rows c t items of_input cs h =
    let input = then_ok c (λ columns. with_columns_check columns items) cs h in
    let has = of_input input.0 input.1.0 in
    let found = with_found input.0 items cs input.1.1 in
    let typed = subst (λ (columns : Columns). AllByRecursion (HasKind columns) items) (sym has.0) found.1 in
    let is : with_columns_schema t.columns items ≡ cs = ap (λ (columns : Columns). with_columns_schema columns items) has.0 ∙ sym found.0 in
    let fit = subst (λ (columns : Columns). IsTrue (rows_fit columns t.rows)) (sym has.0) has.1 in
    let rows = map_all (row_fits t.columns) (row_fits (with_columns_schema t.columns items)) (with_columns_row t.columns items)
    (λ r k. added_fit t.columns r k items typed) t.rows fit in
    (is, subst (λ (columns : Columns). IsTrue (rows_fit columns (map (with_columns_row t.columns items) t.rows))) is rows)

join_has_rows :
    (c d : CheckResult) (t u : PlainTable) (how : How) (keys : List (List ℕ)) (nulls_equal : Bool) → HasRows c t → HasRows d u →
    HasRows (then_next c (λ ls. then_next d (λ rs. join_check ls rs keys))) (join_table t u how keys nulls_equal)
unfolding join_table
join_has_rows c d t u how keys nulls_equal of_left of_right cs h =
    let first = then_ok c (λ ls. then_next d (λ rs. join_check ls rs keys)) cs h in
    let second = then_ok d (λ rs. join_check first.0 rs keys) cs first.1.1 in
    let l = of_left first.0 first.1.0 in
    let r = of_right second.0 second.1.0 in
    let found = join_found first.0 second.0 keys cs second.1.1 in
    let same : columns_of_join t.columns u.columns keys ≡ columns_of_join first.0 second.0 keys =
    ap (λ (ls : Columns). columns_of_join ls u.columns keys) l.0 ∙ ap (λ (rs : Columns). columns_of_join first.0 rs keys) r.0 in
    let is : columns_of_join t.columns u.columns keys ≡ cs = same ∙ sym found.0 in
    let apart : doubled_column_after [] (columns_of_join t.columns u.columns keys) ≡ None = ap (λ (o : Columns). doubled_column_after [] o) same ∙ found.1 in
    let left_fit = subst (λ (columns : Columns). IsTrue (rows_fit columns t.rows)) (sym l.0) l.1 in
    let right_fit = subst (λ (columns : Columns). IsTrue (rows_fit columns u.rows)) (sym r.0) r.1 in
    let rows = joined_fits how t.columns u.columns keys nulls_equal t.rows u.rows apart left_fit right_fit in
    (is, subst (λ (columns : Columns). IsTrue (rows_fit columns (join_rows how (join_indices_of t.columns u.columns keys nulls_equal) t.rows u.rows))) is rows)

-- a column is put among those of a table, its cells having the column's type where the node's check finds what it wants
put_has_rows :
    (c : CheckResult) (t : PlainTable) (name : List ℕ) (k : CellType) (cells : List Cell) (next : Columns → CheckResult) (Found : Columns → Type 0) →
    ((columns cs : Columns) → next columns ≡ Ok cs → IsPut columns name k cs × Found columns) →
    (Found t.columns → IsTrue (rows_fit t.columns t.rows) → IsTrue (list_all (fits_dtype k) cells)) →
    HasRows c t → HasRows (then_next c next) (with_column_table t name k cells)
unfolding with_column_table
put_has_rows c t name k cells next Found finds typed of_input cs h =
    let input = then_ok c next cs h in
    let has = of_input input.0 input.1.0 in
    let found = finds input.0 cs input.1.1 in
    let is : with_columns t.columns ((name, k) ∷ []) ≡ cs = ap (λ (columns : Columns). with_columns columns ((name, k) ∷ [])) has.0 ∙ sym found.0 in
    let fit = subst (λ (columns : Columns). IsTrue (rows_fit columns t.rows)) (sym has.0) has.1 in
    let rows = puts_fit t.columns name k t.rows cells fit (typed (subst Found (sym has.0) found.1) fit) in
    (is, subst (λ (columns : Columns). IsTrue (rows_fit columns (with_column_rows t.columns name t.rows cells))) is rows)

roll_has_rows :
    (c : CheckResult) (t : PlainTable) (name : List ℕ) (k : RollKind) (column : List ℕ) (w m : ℤ) → HasRows c t →
    HasRows (then_next c (λ columns. rolling_check columns name k column w m)) (rolling_table t name k column (size_of w) (size_of m))
unfolding rolling_table
roll_has_rows c t name k column w m =
    let cells = cells_of (column_index column t.columns) t.rows in
    put_has_rows c t name (rolling_dtype k) (rolling_cells k (size_of w) (size_of m) cells) (λ columns. rolling_check columns name k column w m) (IsWhole column)
    (roll_found name k column w m) (λ is fit. rolled_fits k (size_of w) (size_of m) cells (cells_fit t.columns column dtype.Int is t.rows fit))

cum_sum_has_rows :
    (c : CheckResult) (t : PlainTable) (name column : List ℕ) → HasRows c t →
    HasRows (then_next c (λ columns. cum_sum_check columns name column)) (cum_sum_table t name column)
unfolding cum_sum_table
cum_sum_has_rows c t name column =
    let cells = cells_of (column_index column t.columns) t.rows in
    put_has_rows c t name dtype.Wide (cum_sum cells) (λ columns. cum_sum_check columns name column) (IsWhole column)
    (cum_sum_found name column) (λ is fit. sums_fit cells)

rank_has_rows :
    (c : CheckResult) (t : PlainTable) (name : List ℕ) (k : RankKind) (column : List ℕ) → HasRows c t →
    HasRows (then_next c (λ columns. rank_check columns name column)) (rank_table t name k column)
unfolding rank_table
rank_has_rows c t name k column =
    let place = column_index column t.columns in
    put_has_rows c t name dtype.Int (ranks_of k place t.rows) (λ columns. rank_check columns name column) (λ columns. Unit {0})
    (rank_found name column) (λ is fit. ranks_fit k place t.rows)

-- where all frames fit their schemas, the frame of an index has rows that fit the schema there
frame_rows :
    (schemas : List Columns) (frames : List Rows) → IsTrue (frames_fit schemas frames) → (f : ℕ) (cs : Columns) →
    slice_get schemas f ≡ Some cs → (rs : Rows) × ((slice_get frames f ≡ Some rs) × IsTrue (rows_fit cs rs))
frame_rows [] frames fit f cs h = cc
frame_rows (s ∷ schemas) [] fit f cs h = cc
frame_rows (s ∷ schemas) (rs ∷ frames) fit zero cs h =
    let same : s ≡ cs = cc in
    (rs, (refl, subst (λ (c : Columns). IsTrue (rows_fit c rs)) same (first_of_two (rows_fit s rs) (frames_fit schemas frames) fit)))
frame_rows (s ∷ schemas) (rs ∷ frames) fit (suc f) cs h =
    frame_rows schemas frames (second_of_two (rows_fit s rs) (frames_fit schemas frames) fit) f cs h

frame_found : (f : ℕ) (o : Option Columns) (cs : Columns) → frame_check f o ≡ Ok cs → o ≡ Some cs
frame_found f None cs h = cc
frame_found f (Some columns) cs h = cc

scan_has_rows :
    (schemas : List Columns) (frames : List Rows) → IsTrue (frames_fit schemas frames) → (f : ℕ) →
    HasRows (frame_check f (slice_get schemas f)) (frame_table (slice_get schemas f) (slice_get frames f))
scan_has_rows schemas frames fit f cs h =
    let here = frame_found f (slice_get schemas f) cs h in
    let rows = frame_rows schemas frames fit f cs here in
    rw (here, rows.1.0) (refl, rows.1.1)

-- one node, whose input has rows that fit
step :
    (schemas : List Columns) (frames : List Rows) → IsTrue (frames_fit schemas frames) →
    (y : Plan-F ((p : Plan) × HasRows (columns_of p schemas) (table_of p schemas frames))) →
    let p = roll-Plan (map-Plan ((p : Plan) × HasRows (columns_of p schemas) (table_of p schemas frames)) Plan (λ p. p.0) y) in
    HasRows (columns_of p schemas) (table_of p schemas frames)
step schemas frames fit (Plan-F.Scan f) =
    rw (fold-roll-Plan CheckResult (check_step schemas), fold-roll-Plan PlainTable (table_step schemas frames)) (scan_has_rows schemas frames fit f)
step schemas frames fit (Plan-F.Filter a p) =
    rw (fold-roll-Plan CheckResult (check_step schemas), fold-roll-Plan PlainTable (table_step schemas frames))
    (filter_has_rows (columns_of a.0 schemas) (table_of a.0 schemas frames) p a.1)
step schemas frames fit (Plan-F.Select a items) =
    rw (fold-roll-Plan CheckResult (check_step schemas), fold-roll-Plan PlainTable (table_step schemas frames))
    (select_has_rows (columns_of a.0 schemas) (table_of a.0 schemas frames) items a.1)
step schemas frames fit (Plan-F.WithColumns a items) =
    rw (fold-roll-Plan CheckResult (check_step schemas), fold-roll-Plan PlainTable (table_step schemas frames))
    (with_has_rows (columns_of a.0 schemas) (table_of a.0 schemas frames) items a.1)
step schemas frames fit (Plan-F.GroupBy a keys aggs) =
    rw (fold-roll-Plan CheckResult (check_step schemas), fold-roll-Plan PlainTable (table_step schemas frames))
    (group_has_rows (columns_of a.0 schemas) (table_of a.0 schemas frames) keys aggs a.1)
step schemas frames fit (Plan-F.Join a b how keys nulls_equal) =
    rw (fold-roll-Plan CheckResult (check_step schemas), fold-roll-Plan PlainTable (table_step schemas frames))
    (join_has_rows (columns_of a.0 schemas) (columns_of b.0 schemas) (table_of a.0 schemas frames) (table_of b.0 schemas frames) how keys nulls_equal a.1 b.1)
step schemas frames fit (Plan-F.Rolling a name k column w m) =
    rw (fold-roll-Plan CheckResult (check_step schemas), fold-roll-Plan PlainTable (table_step schemas frames))
    (roll_has_rows (columns_of a.0 schemas) (table_of a.0 schemas frames) name k column w m a.1)
step schemas frames fit (Plan-F.CumSum a name column) =
    rw (fold-roll-Plan CheckResult (check_step schemas), fold-roll-Plan PlainTable (table_step schemas frames))
    (cum_sum_has_rows (columns_of a.0 schemas) (table_of a.0 schemas frames) name column a.1)
step schemas frames fit (Plan-F.Rank a name k column) =
    rw (fold-roll-Plan CheckResult (check_step schemas), fold-roll-Plan PlainTable (table_step schemas frames))
    (rank_has_rows (columns_of a.0 schemas) (table_of a.0 schemas frames) name k column a.1)

plan_has_rows :
    (schemas : List Columns) (frames : List Rows) → IsTrue (frames_fit schemas frames) → (p : Plan) →
    HasRows (columns_of p schemas) (table_of p schemas frames)
plan_has_rows schemas frames fit =
    ind-Plan (λ p. HasRows (columns_of p schemas) (table_of p schemas frames))
    (λ x y is. subst (λ z. HasRows (columns_of (roll-Plan z) schemas) (table_of (roll-Plan z) schemas frames)) is (step schemas frames fit y))

-- the rows of a plan that checks fit the schema that the check found
pub table_fits :
    (schemas : List Columns) (frames : List Rows) → IsTrue (frames_fit schemas frames) → (p : Plan) (cs : Columns) →
    plan_check p schemas ≡ Ok cs → IsTrue (rows_fit cs (table_of p schemas frames).rows)
table_fits schemas frames fit p cs h = (plan_has_rows schemas frames fit p cs (checked_columns p schemas cs h)).1

-- and its table has the columns of that schema
pub table_columns :
    (schemas : List Columns) (frames : List Rows) → IsTrue (frames_fit schemas frames) → (p : Plan) (cs : Columns) →
    plan_check p schemas ≡ Ok cs → (table_of p schemas frames).columns ≡ cs
table_columns schemas frames fit p cs h = (plan_has_rows schemas frames fit p cs (checked_columns p schemas cs h)).0
