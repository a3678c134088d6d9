-- What a rank gives of rows that fit, fits too.
use Rattle.std.proofs.Common.{ℕ, List, [], ◌∷◌, Option, Some, IsTrue}
use Rattle.std.specs.FinMap as finite
use Rattle.df_value.specs.Cells.{fits_dtype}
use Rattle.df_value.specs.Rows.{cell_at}
use Rattle.df_value.specs.Schemas.{Columns}
use Rattle.df_value.specs.declared.cell.Cell.{Cell}
use Rattle.df_value.specs.declared.cell.CellType.TheVariants as dtype
use Rattle.df_ops.specs.NamedColumns.{with_columns}
use Rattle.df_ops.specs.Ranks.{distinct_at}
use Rattle.df_ops.specs.RowWise.{with_column_row}
use Rattle.df_ops.specs.declared.ranks.RankKind.{RankKind}
use Rattle.df_ops.specs.declared.ranks.RankKind.TheVariants as rank
use Rattle.df_ops.proofs.FitCells.{dense_fits, min_fits, put_fits}
use Rattle.df_column.specs.Tables.{TaggedRows}
use Rattle.df_delta.specs.Deltas.{RowsFit}
use Rattle.df_delta.proofs.FitRows.{collected_fit}
use Rattle.df_ranks.specs.Ranked.{rank_of, ranked}

rank_fits : (kind : RankKind) (index : Option ℕ) (rows : List (List Cell)) (c : Cell) → IsTrue (fits_dtype dtype.Int (rank_of kind index rows c))
rank_fits rank.Dense index rows c = dense_fits (distinct_at index rows) c
rank_fits rank.Min index rows c = min_fits index rows c

pub ranked_fits : (columns : Columns) (name : List ℕ) (kind : RankKind) (index : Option ℕ) (t : TaggedRows) → RowsFit columns t →
    RowsFit (with_columns columns ((name, dtype.Int) ∷ [])) (ranked columns name kind index t)
ranked_fits columns name kind index t fit =
    collected_fit columns (with_columns columns ((name, dtype.Int) ∷ []))
    (λ _ row. Some (with_column_row columns name row (rank_of kind index (finite.values t) (cell_at index row))))
    (λ _ row h. put_fits columns row h name dtype.Int (rank_of kind index (finite.values t) (cell_at index row)) (rank_fits kind index (finite.values t) (cell_at index row))) t fit
