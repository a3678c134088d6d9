use Rattle.std.proofs.Common.{◌≡◌, ◌++◌, flat_map, map, take}
use Rattle.df_writing.specs.FrameTables.{column_item}
use Rattle.df_writing.proofs.frame_tables.push_columns.Given as goal

abbrev pub invariant-loop-column : goal.invariant-loop-column
invariant-loop-column l =
    l.text.items ≡ l.fn.text.items ++ flat_map column_item (map (λ c. (c.0.now, c.1.now)) (take l.column-index l.columns))
