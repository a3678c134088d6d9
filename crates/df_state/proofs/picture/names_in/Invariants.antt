use Rattle.std.proofs.Common.{◌≡◌, take, map}
use Rattle.df_state.proofs.picture.names_in.Given as goal

abbrev pub invariant-loop-view : goal.invariant-loop-view
invariant-loop-view l = l.names.items ≡ map (λ v. v.name) (take l.view-index l.views)
