use Rattle.std.proofs.Common.{◌≡◌, ◌++◌, map, take}
use Rattle.df_column.proofs.row_tags.push_picked_tags.Given as goal

abbrev pub invariant-loop-pick : goal.invariant-loop-pick
invariant-loop-pick l = l.out.items ≡ l.initial.out.items ++ map (λ p. p.tag) (take l.pick-index l.picks)
