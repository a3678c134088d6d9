-- What a live rank keeps of its input.
use Rattle.std.specs.Prelude.{◌≡◌, ℕ, ◌≤◌, ◌^◌, List, Option}
use Rattle.std.specs.FinMap as finite
use Rattle.df_value.specs.declared.cell.Cell.{Cell}
use Rattle.df_value.specs.declared.cell.CellType.{CellType}
use Rattle.df_ops.specs.declared.ranks.RankKind.{RankKind}
use Rattle.df_column.specs.Tables.{TableParts, TaggedRows}
use Rattle.df_counts.specs.Counts.{AreCounts}
use Rattle.df_delta.specs.Deltas.{RowsFit}
use Rattle.df_ranks.specs.Ranked.{ranked}

-- the tables are the input and what the rank gives of it, and the counts are those of the input's values
pub record IsRanked (columns : List (List ℕ × CellType)) (name : List ℕ) (kind : RankKind) (index : Option ℕ) (input output : TableParts) (counts : List (Cell × ℕ)) (t : TaggedRows) : Type 0 where
  pub few : finite.len t ≤ 2 ^ 60
  pub rows : input.rows ≡ t
  pub ranks : output.rows ≡ ranked columns name kind index t
  pub values : AreCounts counts index (finite.values t)

-- the rows fit the input's schema, and what the rank gives of them that of the output
pub record RanksFit (columns : List (List ℕ × CellType)) (name : List ℕ) (kind : RankKind) (index : Option ℕ) (input output : TableParts) (t : TaggedRows) : Type 0 where
  pub rows : RowsFit input.schema t
  pub ranks : RowsFit output.schema (ranked columns name kind index t)
