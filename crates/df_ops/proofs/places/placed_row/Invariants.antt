use Rattle.std.proofs.Common.{◌≡◌, take, map}
use Rattle.df_ops.specs.Places.{placed_cell}
use Rattle.df_ops.proofs.places.placed_row.Given as goal

abbrev pub invariant-loop-place : goal.invariant-loop-place
invariant-loop-place l = l.cells.items ≡ map (placed_cell l.row l.added) (take l.place-index l.places)
