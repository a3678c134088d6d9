use Rattle.std.proofs.Common.{rules, ◌+◌, ◌++◌, ◌∷◌, [], List, All, ap, sym, ◌∙◌, subst, arith}
use Rattle.atomic_table.specs.Seated.{TableId}
use Rattle.df_claims.specs.declared.rule.Draws.{Draws}
use Rattle.df_claims.specs.Seats.{AreAllSeats, IsFresh, SeatView}
use Rattle.df_claims.proofs.Cutting.{HasCut, cut-last, cut-last-fresh, cut-more, splits}
use Rattle.df_claims.proofs.claims.Claims.cut.Goals as goal

pub split_seat-seat-requires : goal.split_seat-seat-requires
split_seat-seat-requires c =
    let so_far = c.loop.invariant.0 in
    (so_far.same_table ∙ sym (ap (λ v. v.table) c.self.view_is), search rules, splits _ _ _ so_far.misses (omega (arith, so_far.left, c.loop-test.true, c.requires.count)))

pub loop-preserved : goal.loop-preserved
loop-preserved c =
    let so_far = c.loop.invariant.0 in
    let cut = c.split_seat-seat.ensures in
    let more = cut-more _ _ _ _ _ _ c.split_seat-seat.result.id (cut.3 ∙ so_far.same_table) (omega (arith, c.loop-test.true, c.requires.count)) so_far in
    let draws = ap (λ m. m.0) cut.2 in
    let new : Draws → SeatView = λ d. record { table = c.split_seat-seat.result.table_id; id = c.split_seat-seat.result.id; draws = d } in
    let items = c.push_reserved.ensures.items ∙ ap (λ m. c.loop.seats.items ++ new (m.0) ∷ []) cut.4 in (
      subst (λ (z : TableId × Draws × List SeatView). HasCut c.args.self.now (c.loop.counter + 1) z.0 z.1 z.2) (λ i. (sym cut.0 i, sym draws i, sym items i)) more,
      ap (λ m. m.1) cut.2 ∙ c.loop.invariant.1,
      omega (arith, c.push_reserved.ensures.capacity, c.loop.invariant.2),
    )

pub returns-clause-fresh : goal.returns-clause-fresh
returns-clause-fresh c = subst (All IsFresh) (sym c.push_reserved-2.ensures.items) (cut-last-fresh _ _ _ _ _ _ c.loop.invariant.0)

pub returns-clause-all : goal.returns-clause-all
returns-clause-all c =
    let so_far = c.loop.invariant.0 in
    subst (AreAllSeats c.args.self.now) (sym c.push_reserved-2.ensures.items) (cut-last _ _ _ _ _ _ (omega (arith, so_far.left, c.loop-test.false, c.requires.count)) so_far)
