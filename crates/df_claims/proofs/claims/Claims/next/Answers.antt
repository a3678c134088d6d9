use Rattle.std.proofs.Common.{◌≡◌, ◌<◌, ◌∙◌, ap, sym, subst, arith, rules, Bool, if◌then◌else◌}
use Rattle.df_claims.specs.Seats.{SeatView}
use Rattle.df_claims.proofs.Drawing.{draws}
use Rattle.df_claims.proofs.Keeping.{all_drawn}
use Rattle.df_claims.proofs.claims.Claims.next.Goals as goal

pub fetch_add-found-requires : goal.fetch_add-found-requires
fetch_add-found-requires c =
    let unfinished : c.seat.inside.seat.me.0.misses ≡ 0 = c.seat.invariant.0 ∙ ap (λ (b : Bool). if b then 1 else 0) c.if-seat.false in
    let part = subst (λ (v : SeatView). 0 < v.draws.parts) (sym c.seat.view_is) c.requires.part in
    let total = ap (λ (v : SeatView). v.draws.total) c.seat.view_is in
    (search rules, search rules, draws _ _ _ c.seat.inside.seat.me unfinished part (total ∙ (c.requires.total ∙ (ap (λ v. v.total) (sym c.self.view_is) ∙ sym c.self.invariant.0))))

pub returns-then-seat-clause-none : goal.returns-then-seat-clause-none
returns-then-seat-clause-none c =
    let missed : c.seat.inside.seat.me.0.misses ≡ 1 = c.seat.invariant.0 ∙ ap (λ (b : Bool). if b then 1 else 0) c.if-seat.true in
    let finished = subst (λ (v : SeatView). 0 < v.draws.misses) c.seat.view_is (omega (arith, missed)) in
    (finished, λ s lawful at n less. all_drawn _ _ _ s finished lawful at n less)

pub returns-else-found-self-clause-none : goal.returns-else-found-self-clause-none
returns-else-found-self-clause-none c =
    let total = ap (λ (v : SeatView). v.draws.total) c.seat.view_is ∙ (c.requires.total ∙ ap (λ v. v.total) (sym c.self.view_is)) in
    let missed = c.fetch_add-found.ensures.2.above (omega (arith, c.if-found-self.false, total)) in
    let finished : 0 < c.fetch_add-found.new.seat.me.0.misses = omega (arith, ap (λ v. v.misses) missed) in
    (finished, λ s lawful at n less. all_drawn _ _ _ s finished lawful at n less)
