-- The law of a plan's tagged rows: without their tags they are the plan's table over the frames' rows.
use Rattle.std.specs.Prelude.{◌≡◌, ◌≤◌, List}
use Rattle.std.specs.FinMap as finite
use Rattle.df_ops.specs.declared.plain_table.PlainTable.{PlainTable}
use Rattle.df_column.specs.Tables.{TaggedRows}
use Rattle.df_join.specs.Spread.{HasKeys, IsTagOver}
use Rattle.df_live.specs.Meaning.{Meaning}

-- what a plan means of these frames is this table, under the tags of its scans
pub record IsLawful (frames : List TaggedRows) (m : Meaning) (t : PlainTable) : Type 0 where
  pub some : 1 ≤ m.scans
  pub table : record { columns = m.columns; rows = finite.values (m.gives frames) } ≡ t
  pub tags : HasKeys (IsTagOver m.scans) (m.gives frames)
