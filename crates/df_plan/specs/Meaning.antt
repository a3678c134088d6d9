-- The table that a plan means over frames: that of a scan is its frame, and each other node gives what its operator gives
-- of the table of its input.
use Rattle.std.specs.Prelude.{ℕ, List, [], ◌∷◌, Option, Some, None, Bool, true, false, ◌&&◌, slice_get}
use Rattle.df_value.specs.declared.cell.Cell.{Cell}
use Rattle.df_value.specs.declared.cell.CellType.{CellType}
use Rattle.df_value.specs.Rows.{rows_fit}
use Rattle.df_ops.specs.Tables.{filter_table, select_table, with_columns_table, group_by_table, join_table, rolling_table, cum_sum_table, rank_table}
use Rattle.df_ops.specs.Windows.{size_of}
use Rattle.df_ops.specs.declared.plain_table.PlainTable.{PlainTable}
use Rattle.df_plan.specs.declared.plan.Plan.{Plan, fold-Plan}
use Rattle.df_plan.specs.declared.plan.Plan.TheOpen.{Plan-F}

-- the columns and rows of a frame, empty where either is missing
abbrev pub frame_table : Option (List (List ℕ × CellType)) → Option (List (List Cell)) → PlainTable
frame_table None rows = record { columns = []; rows = [] }
frame_table (Some columns) None = record { columns = []; rows = [] }
frame_table (Some columns) (Some rows) = record { columns = columns; rows = rows }

-- the table of one node, from that of its input
abbrev pub table_step : List (List (List ℕ × CellType)) → List (List (List Cell)) → Plan-F PlainTable → PlainTable
table_step schemas frames (Plan-F.Scan frame) = frame_table (slice_get schemas frame) (slice_get frames frame)
table_step schemas frames (Plan-F.Filter t p) = filter_table t p
table_step schemas frames (Plan-F.Select t items) = select_table t items
table_step schemas frames (Plan-F.WithColumns t items) = with_columns_table t items
table_step schemas frames (Plan-F.GroupBy t keys aggs) = group_by_table t keys aggs
table_step schemas frames (Plan-F.Join left right h keys nulls_equal) = join_table left right h keys nulls_equal
table_step schemas frames (Plan-F.Rolling t name k column w m) = rolling_table t name k column (size_of w) (size_of m)
table_step schemas frames (Plan-F.CumSum t name column) = cum_sum_table t name column
table_step schemas frames (Plan-F.Rank t name k column) = rank_table t name k column

-- the table that a plan means over frames of these schemas and rows
abbrev pub table_of : Plan → List (List (List ℕ × CellType)) → List (List (List Cell)) → PlainTable
table_of p schemas frames = fold-Plan PlainTable (table_step schemas frames) p

-- whether there is one list of rows for each schema, and all of them fit it
abbrev pub frames_fit : List (List (List ℕ × CellType)) → List (List (List Cell)) → Bool
frames_fit [] [] = true
frames_fit [] (rs ∷ rows) = false
frames_fit (s ∷ schemas) [] = false
frames_fit (s ∷ schemas) (rs ∷ rows) = rows_fit s rs && frames_fit schemas rows
