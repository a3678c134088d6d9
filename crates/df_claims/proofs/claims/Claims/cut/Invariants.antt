use Rattle.std.proofs.Common.{◌≡◌, ◌≤◌, [], vec_capacity}
use Rattle.df_claims.proofs.Cutting.{HasCut}
use Rattle.df_claims.proofs.claims.Claims.cut.Given as goal

abbrev pub invariant-loop : goal.invariant-loop
invariant-loop l = HasCut l.self l.counter l.first.table_id l.first.me.0 l.seats.items × (l.first.me.1 ≡ []) × (l.count ≤ vec_capacity l.seats)
