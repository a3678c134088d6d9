use Rattle.std.proofs.Common.{◌≡◌, [], map, take, drop}
use Rattle.df_frame.specs.Refusals.{doubled_number_after}
use Rattle.df_frame.proofs.number_sets.first_in_list.Given as goal

abbrev pub invariant-loop-i : goal.invariant-loop-i
invariant-loop-i g l =
    doubled_number_after [] (map g.N.HasNumber.number_of l.items)
    ≡ doubled_number_after (take l.i (map g.N.HasNumber.number_of l.items)) (drop l.i (map g.N.HasNumber.number_of l.items))
