use Rattle.std.proofs.Common.{◌≡◌, map, take}
use Rattle.df_frame.specs.FrameTables.{numbered_rows}
use Rattle.df_frame.proofs.table_numbers.row_numbers.Given as goal

abbrev pub invariant-loop-place : goal.invariant-loop-place
invariant-loop-place l = l.numbers.items ≡ take l.place (map (λ r. r.0) (numbered_rows l.table.rows))
