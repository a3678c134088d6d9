-- Blocks after the changes of some entries that rise: those between two indexes of the entries.
use Rattle.std.specs.Prelude.{◌≡◌, ℕ, ◌≤◌, ◌++◌, T, List, drop, length, map, take}
use Rattle.std.specs.FinMap.Entries.{below_all}
use Rattle.df_value.specs.declared.cell.CellType.{CellType}
use Rattle.df_column.specs.BlockLists.{blocks_of_leaves}
use Rattle.df_column.specs.Blocks.{AreOfDtypes, BlockParts, rows_of_blocks}
use Rattle.df_column.specs.Changes.{after_changes, apart}
use Rattle.df_column.specs.Tables.{entry_change}
use Rattle.df_column.specs.Tags.{tag_cmp}
use Rattle.df_column.specs.declared.entry.Entry.{Entry}
use Rattle.df_column.specs.declared.tag.Tag.{Tag}

-- the new blocks have the rows of the old ones after the entries behind the first so many, which stand before all old
-- rows; a tag below all old rows is below the other entries
pub record AreChangedFrom (dtypes : List CellType) (old : List BlockParts) (entries : List Entry) (new : List BlockParts) (from : ℕ) : Type 0 where
  pub within : from ≤ length entries
  pub before : T (apart tag_cmp (map entry_change (take from entries)) (rows_of_blocks old))
  pub behind : (t : Tag) → T (below_all tag_cmp t (rows_of_blocks old)) → T (below_all tag_cmp t (map entry_change (drop from entries)))
  pub rows : rows_of_blocks new ≡ after_changes tag_cmp (rows_of_blocks old) (map entry_change (drop from entries))
  pub types : AreOfDtypes dtypes new

-- the new blocks have the rows of the old ones after the entries from one index up to another; those before them stand
-- before all old rows
pub record AreChangedBetween (dtypes : List CellType) (old : List BlockParts) (entries : List Entry) (new : List BlockParts) (from to : ℕ) : Type 0 where
  pub ordered : from ≤ to
  pub within : to ≤ length entries
  pub before : T (apart tag_cmp (map entry_change (take from entries)) (rows_of_blocks old))
  pub rows : rows_of_blocks new ≡ after_changes tag_cmp (rows_of_blocks old) (map entry_change (drop from (take to entries)))
  pub types : AreOfDtypes dtypes new

-- of these leaves those behind the first so many have the rows of the old ones after the entries behind the first so many;
-- the others are the old ones
pub record AreChangedBehind (dtypes : List CellType) (old : List (List BlockParts)) (entries : List Entry) (new : List (List BlockParts)) (at from : ℕ) : Type 0 where
  pub within : at ≤ length old
  pub rest : List (List BlockParts)
  pub is : new ≡ take at old ++ rest
  pub changed : AreChangedFrom dtypes (blocks_of_leaves (drop at old)) entries (blocks_of_leaves rest) from
