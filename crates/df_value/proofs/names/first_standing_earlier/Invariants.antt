use Rattle.std.proofs.Common.{◌≡◌, [], take, drop}
use Rattle.df_value.specs.Names.{doubled_name_after}
use Rattle.df_value.proofs.names.first_standing_earlier.Given as goal

abbrev pub invariant-loop-i : goal.invariant-loop-i
invariant-loop-i g l =
    doubled_name_after g.N.Named.name_of [] l.items ≡ doubled_name_after g.N.Named.name_of (take l.i l.items) (drop l.i l.items)
