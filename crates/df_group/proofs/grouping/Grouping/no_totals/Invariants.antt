use Rattle.std.proofs.Common.{◌≡◌, [], map, take}
use Rattle.df_group.specs.Totals.{total_for}
use Rattle.df_group.proofs.grouping.Grouping.no_totals.Given as goal

abbrev pub invariant-loop-named : goal.invariant-loop-named
invariant-loop-named l = l.totals.items ≡ map (λ a. total_for l.self.members.schema a.1 []) (take l.named-index l.named-items)
