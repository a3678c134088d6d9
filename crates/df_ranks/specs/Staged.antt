-- What a live rank stages of its counts, and the changes of its output.
use Rattle.std.specs.Prelude.{◌≡◌, ℕ, T, List, Option, map}
use Rattle.std.specs.BTreeMap.{BTreeMap}
use Rattle.std.specs.FinMap as finite
use Rattle.std.specs.FinMap.{is_sorted}
use Rattle.df_value.specs.CellOrder.{cell_cmp}
use Rattle.df_value.specs.declared.cell.Cell.{Cell}
use Rattle.df_value.specs.declared.cell.CellType.{CellType}
use Rattle.df_ops.specs.declared.ranks.RankKind.{RankKind}
use Rattle.df_column.specs.Changes.{after_changes}
use Rattle.df_column.specs.Tables.{TaggedRows}
use Rattle.df_column.specs.declared.tag.Tag.{Tag}
use Rattle.df_counts.specs.Counts.{count_change}
use Rattle.df_delta.specs.Deltas.{Changes}
use Rattle.df_delta.specs.Reached.{changes_at}
use Rattle.df_ranks.specs.Counts.{RanksStay, counted_rank}
use Rattle.df_ranks.specs.Ranked.{with_ranks}
use Rattle.df_ranks.specs.Reach.{Reaches}
use Rattle.df_ranks.specs.declared.rank.LiveRank.{LiveRank}

-- changes at tags that reach all rows whose rank differs by the new counts
pub record LooksAgain (columns : List (List ℕ × CellType)) (name : List ℕ) (kind : RankKind) (index : Option ℕ) (old new : List (Cell × ℕ)) (delta : Changes) (output input : TaggedRows) (changes : Changes) : Type 0 where
  pub least : Option Cell
  pub tags : List Tag
  pub stay : RanksStay kind old new least
  pub reach : Reaches tags delta input index least
  pub made : changes ≡ finite.from_sorted (changes_at output (with_ranks columns name index (counted_rank kind new) input) tags)

-- the counts after these rises are staged, and the changes look at all rows whose rank differs by them
pub record IsStage (n : LiveRank) (delta : Changes) (input : TaggedRows) (rises : BTreeMap Cell ℕ) (counts : List (Cell × ℕ)) (changes : Changes) : Type 0 where
  pub sorted : T (is_sorted cell_cmp n.counts)
  pub rising : T (is_sorted cell_cmp rises.entries)
  pub counted : counts ≡ after_changes cell_cmp n.counts (map (count_change n.counts) rises.entries)
  pub again : LooksAgain n.column.schema n.column.name n.column.kind n.column.index n.counts counts delta n.output.rows input changes
