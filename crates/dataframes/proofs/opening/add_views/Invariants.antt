use Rattle.std.proofs.Common.{◌≡◌, map, take}
use Rattle.dataframes.proofs.opening.add_views.Given as goal

abbrev pub invariant-loop-view : goal.invariant-loop-view
invariant-loop-view g l = l.added.items ≡ map (λ v. (v.0, v.1.schema)) (take l.view-index l.views)
