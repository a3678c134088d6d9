use Rattle.std.proofs.Common.{map, drop}
use Rattle.df_frame.specs.FrameTables.{HasNewRows}
use Rattle.df_frame.proofs.deltas.new_rows_of.Given as goal

abbrev pub invariant-loop-i : goal.invariant-loop-i
invariant-loop-i g l =
    HasNewRows l.new_rows (map (λ item. (g.N.HasNumber.number_of item, g.N.NewRow.row_of item)) (drop l.i l.items))
