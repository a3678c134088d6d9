use Rattle.std.proofs.Common.{◌≡◌, ◌-◌, drop, length}
use Rattle.df_nodes.specs.Sliding.{stacked}
use Rattle.df_nodes.proofs.sliding.stack_of.Given as goal

abbrev pub invariant-loop-at : goal.invariant-loop-at
invariant-loop-at l = l.stack.items ≡ stacked l.kind (drop (length l.cells - l.at) l.cells)
