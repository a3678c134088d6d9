use Rattle.std.proofs.Common.{◌≡◌, ◌+◌, take, map}
use Rattle.std.specs.List.{range_with_len}
use Rattle.df_ops.specs.Aggregates.{cells_of}
use Rattle.df_ops.specs.Windows.{rolling_cell, window_of}
use Rattle.df_ops.proofs.windows.rolling_cells.Given as goal

abbrev pub invariant-loop-i : goal.invariant-loop-i
invariant-loop-i l =
    l.cells.items
    ≡ map (λ k. rolling_cell l.kind l.m (window_of l.w (cells_of l.index (take (k + 1) l.rows)))) (range_with_len 0 l.i)
