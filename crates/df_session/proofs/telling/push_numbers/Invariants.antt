use Rattle.std.proofs.Common.{◌≡◌, ◌++◌, codes, decimal, flat_map, take}
use Rattle.df_session.proofs.telling.push_numbers.Given as goal

abbrev pub invariant-loop-number : goal.invariant-loop-number
invariant-loop-number l =
    l.text.items ≡ (l.fn.text.items ++ codes "numbers") ++ flat_map (λ n. codes " " ++ decimal n) (take l.number-index l.numbers)
