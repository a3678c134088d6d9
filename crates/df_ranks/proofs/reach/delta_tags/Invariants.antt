use Rattle.std.proofs.Common.{◌≡◌, ◌++◌, map, drop}
use Rattle.std.specs.FinMap as finite
use Rattle.df_ranks.proofs.reach.delta_tags.Given as goal

abbrev pub invariant-loop-entry : goal.invariant-loop-entry
invariant-loop-entry l = l.tags.items ++ map (λ e. e.tag) (drop l.entry-index l.entries) ≡ finite.keys l.delta
