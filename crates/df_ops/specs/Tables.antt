-- The table that each operator gives of the whole table of its input: `filter`, `select`, `with_columns`, `join`, rolling
-- windows, `cum_sum`, `rank`, and `group_by` with `maintain_order=True` of the Polars Python reference.
use Rattle.std.specs.Prelude.{ℕ, Bool, pos, List, [], ◌∷◌, ◌++◌, Option, Some, None, length, map, unwrap_or}
use Rattle.df_value.specs.declared.cell.Cell.{Cell}
use Rattle.df_value.specs.declared.cell.Cell.TheVariants as cell
use Rattle.df_value.specs.declared.cell.CellType.{CellType}
use Rattle.df_value.specs.declared.cell.CellType.TheVariants as dtype
use Rattle.df_value.specs.Schemas.{column_index, column_dtype}
use Rattle.df_expr.specs.declared.expr.Expr.{Expr}
use Rattle.df_ops.specs.Groups.{keys_of, group_of}
use Rattle.df_ops.specs.AggregateDtypes.{input_column, output_dtype}
use Rattle.df_ops.specs.Aggregates.{cells_of, count_of, sum_of, min_or_max_of, first_cell, last_cell, n_unique_of, mean_of}
use Rattle.df_ops.specs.RowWise.{item_column, filter_rows, select_row, with_columns_row, with_columns_schema, with_column_rows}
use Rattle.df_ops.specs.declared.min_max.MinMax.TheVariants as min_max
use Rattle.df_ops.specs.Joins.{columns_of_join, join_rows, join_indices_of}
use Rattle.df_ops.specs.declared.agg.Agg.{Agg}
use Rattle.df_ops.specs.declared.agg.Agg.TheVariants as agg
use Rattle.df_ops.specs.declared.joins.How.{How}
use Rattle.df_ops.specs.declared.ranks.RankKind.{RankKind}
use Rattle.df_ops.specs.declared.windows.RollKind.{RollKind}
use Rattle.df_ops.specs.NamedColumns.{with_columns, column_indices}
use Rattle.df_ops.specs.Ranks.{ranks_of}
use Rattle.df_ops.specs.Windows.{rolling_cells, rolling_dtype, cum_sum}
use Rattle.df_ops.specs.declared.plain_table.PlainTable.{PlainTable}

-- an aggregate of the rows of a group
abbrev pub aggregate_cell : List (List ℕ × CellType) → List (List Cell) → Agg → Cell
aggregate_cell columns rows agg.Len = cell.Int (pos (length rows))
aggregate_cell columns rows (agg.Count name) = cell.Int (pos (count_of (cells_of (column_index name columns) rows)))
aggregate_cell columns rows (agg.Sum name) = cell.Wide (sum_of (cells_of (column_index name columns) rows))
aggregate_cell columns rows (agg.Min name) = min_or_max_of min_max.Min (cells_of (column_index name columns) rows)
aggregate_cell columns rows (agg.Max name) = min_or_max_of min_max.Max (cells_of (column_index name columns) rows)
aggregate_cell columns rows (agg.First name) = first_cell (cells_of (column_index name columns) rows)
aggregate_cell columns rows (agg.Last name) = last_cell (cells_of (column_index name columns) rows)
aggregate_cell columns rows (agg.NUnique name) = cell.Int (pos (n_unique_of (column_index name columns) rows))
aggregate_cell columns rows (agg.Mean name) = mean_of (cells_of (column_index name columns) rows)

-- the type of a column, Int where there is none
abbrev pub dtype_at : List (List ℕ × CellType) → List ℕ → CellType
dtype_at columns name = unwrap_or (column_dtype name columns) dtype.Int

abbrev pub output_dtype_over : List (List ℕ × CellType) → Agg → Option (List ℕ) → CellType
output_dtype_over columns a None = dtype.Int
output_dtype_over columns a (Some name) = unwrap_or (output_dtype a (dtype_at columns name)) dtype.Int

-- the type of an aggregate, where it checks
abbrev pub aggregate_dtype : List (List ℕ × CellType) → Agg → CellType
aggregate_dtype columns a = output_dtype_over columns a (input_column a)

-- the key, and after it the aggregates of its group
abbrev pub group_row :
    List (List ℕ × CellType) → List (Option ℕ) → List (List ℕ × Agg) → List (List Cell) → List Cell → List Cell
group_row columns indices aggs rows key = key ++ map (λ a. aggregate_cell columns (group_of indices rows key) a.1) aggs

abbrev pub key_column : List (List ℕ × CellType) → List ℕ → List ℕ × CellType
key_column columns name = (name, dtype_at columns name)

abbrev pub aggregate_column : List (List ℕ × CellType) → List ℕ × Agg → List ℕ × CellType
aggregate_column columns a = (a.0, aggregate_dtype columns a.1)

abbrev pub group_by_columns : List (List ℕ × CellType) → List (List ℕ) → List (List ℕ × Agg) → List (List ℕ × CellType)
group_by_columns columns keys aggs = map (key_column columns) keys ++ map (aggregate_column columns) aggs

-- a row for each key, in the order in which the keys first appear
abbrev pub group_by_rows : PlainTable → List (List ℕ) → List (List ℕ × Agg) → List (List Cell)
group_by_rows t keys aggs =
    map (group_row t.columns (column_indices t.columns keys) aggs t.rows) (keys_of (column_indices t.columns keys) t.rows)

unfoldable pub group_by_table : PlainTable → List (List ℕ) → List (List ℕ × Agg) → PlainTable
group_by_table t keys aggs = record { columns = group_by_columns t.columns keys aggs; rows = group_by_rows t keys aggs }

-- the rows whose predicate is true
unfoldable pub filter_table : PlainTable → Expr → PlainTable
filter_table t p = record { columns = t.columns; rows = filter_rows t.columns p t.rows }

-- a column for each item
unfoldable pub select_table : PlainTable → List (List ℕ × Expr) → PlainTable
select_table t items =
    record { columns = map (item_column t.columns) items; rows = map (select_row t.columns items) t.rows }

-- the items' columns put among the input's
unfoldable pub with_columns_table : PlainTable → List (List ℕ × Expr) → PlainTable
with_columns_table t items = record { columns = with_columns_schema t.columns items; rows = map (with_columns_row t.columns items) t.rows }

-- the rows of two tables whose keys match
unfoldable pub join_table : PlainTable → PlainTable → How → List (List ℕ) → Bool → PlainTable
join_table left right h keys nulls_equal = record {
  columns = columns_of_join left.columns right.columns keys;
  rows = join_rows h (join_indices_of left.columns right.columns keys nulls_equal) left.rows right.rows;
}

-- a column of further cells, one for each row, put among a table's columns: in the place of the one of its name, else last
unfoldable pub with_column_table : PlainTable → List ℕ → CellType → List Cell → PlainTable
with_column_table t name k cells = record {
  columns = with_columns t.columns ((name, k) ∷ []);
  rows = with_column_rows t.columns name t.rows cells;
}

-- the rolling values of a column
unfoldable pub rolling_table : PlainTable → List ℕ → RollKind → List ℕ → ℕ → ℕ → PlainTable
rolling_table t name k column w m =
    with_column_table t name (rolling_dtype k) (rolling_cells k w m (cells_of (column_index column t.columns) t.rows))

-- the cumulative sums of a column
unfoldable pub cum_sum_table : PlainTable → List ℕ → List ℕ → PlainTable
cum_sum_table t name column = with_column_table t name dtype.Wide (cum_sum (cells_of (column_index column t.columns) t.rows))

-- the ranks of a column
unfoldable pub rank_table : PlainTable → List ℕ → RankKind → List ℕ → PlainTable
rank_table t name k column = with_column_table t name dtype.Int (ranks_of k (column_index column t.columns) t.rows)
