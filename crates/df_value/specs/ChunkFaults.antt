-- Why rows are no chunk.
use Rattle.std.specs.Prelude.{◌+◌, ℕ, List, length, Option, Some, not, position, option_map, nat_lt, if◌then◌else◌}
use Rattle.df_value.specs.declared.cell.Cell.{Cell}
use Rattle.df_value.specs.declared.cell.CellType.{CellType}
use Rattle.df_value.specs.declared.chunk.ChunkFault.{ChunkFault}
use Rattle.df_value.specs.declared.chunk.ChunkFault.TheVariants as fault
use Rattle.df_value.specs.Limits.{most_rows_of_chunk, row_numbers}
use Rattle.df_value.specs.Rows.{row_fits}

-- the first reason that fits: too long, numbers too large, or the least row that does not fit the schema
abbrev pub chunk_fault : List (List ℕ × CellType) → ℕ → List (List Cell) → Option ChunkFault
chunk_fault schema first rows =
    if nat_lt most_rows_of_chunk (length rows) then Some fault.TooLong
    else if nat_lt row_numbers (first + length rows) then Some fault.NumberTooLarge
    else option_map fault.RowUnlike (position (λ r. not (row_fits schema r)) rows)
