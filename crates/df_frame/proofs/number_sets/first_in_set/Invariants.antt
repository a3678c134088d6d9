use Rattle.std.proofs.Common.{◌≡◌, [], map, take, drop}
use Rattle.df_frame.specs.Numbers.{IsSetOf}
use Rattle.df_frame.specs.Refusals.{doubled_number_after}
use Rattle.df_frame.proofs.number_sets.first_in_set.Given as goal

abbrev pub invariant-loop-item : goal.invariant-loop-item
invariant-loop-item g l =
    (doubled_number_after [] (map g.N.HasNumber.number_of l.items)
    ≡ doubled_number_after (take l.item-index (map g.N.HasNumber.number_of l.items)) (drop l.item-index (map g.N.HasNumber.number_of l.items)))
    × IsSetOf l.seen (take l.item-index (map g.N.HasNumber.number_of l.items))
