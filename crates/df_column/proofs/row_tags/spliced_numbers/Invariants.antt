use Rattle.std.proofs.Common.{◌≡◌, ◌++◌, map, take}
use Rattle.df_column.proofs.row_tags.spliced_numbers.Given as goal

abbrev pub invariant-loop-pick : goal.invariant-loop-pick
invariant-loop-pick l = l.out.items ≡ take l.low l.numbers ++ map (λ p. p.tag.first) (take l.pick-index l.picks)
