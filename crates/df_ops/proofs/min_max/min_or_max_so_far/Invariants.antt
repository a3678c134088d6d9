use Rattle.std.proofs.Common.{◌≡◌, drop}
use Rattle.std.specs.Prelude.{None, option_map}
use Rattle.df_ops.specs.Aggregates.{cells_of}
use Rattle.df_ops.specs.LoopStates.{min_or_max_after}
use Rattle.df_ops.proofs.min_max.min_or_max_so_far.Given as goal

abbrev pub invariant-loop-row : goal.invariant-loop-row
invariant-loop-row l =
    min_or_max_after l.min_max None (cells_of l.index l.rows)
    ≡ min_or_max_after l.min_max (option_map (λ c. c.now) l.so_far) (cells_of l.index (drop l.row-index l.rows))
