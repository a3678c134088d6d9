use Rattle.std.proofs.Common.{◌^◌, ◌∙◌, ap, sym}
use Rattle.std.specs.Prelude.{Ok}
use Rattle.df_live.specs.Operators.{operator_budget}
use Rattle.df_live.specs.Trees.{budget}
use Rattle.df_live.proofs.Preparing.{prepared_join, prepared_over, refused_left, refused_over, refused_right, room_left}
use Rattle.df_live.proofs.tree.LiveTree.+prepared.Goals as goal

pub prepared-returns-in-Operator : goal.prepared-returns-in-Operator
prepared-returns-in-Operator t c = rw c.in-Operator.is (rw c.deref_mut.ensures.value at c.prepared_over.ensures _)

pub prepared-returns-in-Join : goal.prepared-returns-in-Join
prepared-returns-in-Join t c =
    rw c.in-Join.is (rw (c.deref_mut-in-Join.ensures.value, c.deref_mut-in-Join-2.ensures.value) at c.prepared_join.ensures _ _)

pub prepared_over-returns : goal.prepared_over-returns
prepared_over-returns t c p =
    let e = c.prepare.ensures in
    rw c.then_drop.ensures
    (prepared_over p _ c.args.input.now c.prepared-below.new.self c.args.node.now c.prepare.new.self c.args.frame c.args.delta.now c.get.result.now
    c.args.meter.now c.prepared-below.new.meter c.prepare.new.meter c.prepared-below.result c.in_ok-below.below.value c.prepare.result c.over_one-made.result
    c.prepared-below.ensures (c.in_ok-below.ensures ∙ ap (λ d. Ok (c.in_ok-below.below.value, d)) (sym c.get.ensures)) (record {
      stays = record { contents = e.contents; operator = e.operator; takes = e.takes; same_budget = e.same_budget; same_bound = e.same_bound };
      grows = e.grows;
      within = e.within;
      meter = e.meter;
      diff = e.diff;
      staged = e.staged;
      room = e.room;
    }) c.over_one-made.ensures.tree c.over_one-made.ensures.made)

pub prepared_join-returns : goal.prepared_join-returns
prepared_join-returns t c p q =
    let e = c.prepare-made.ensures in
    rw (c.then_drop-2.ensures ∙ c.then_drop.ensures)
    (prepared_join p q _ _ c.args.left.now c.prepared-on_left.new.self c.args.right.now c.prepared-on_right.new.self c.args.node.now c.prepare-made.new.self c.args.frame
    c.args.delta.now c.get.result.now c.get-2.result.now c.args.meter.now c.prepared-on_left.new.meter c.prepared-on_right.new.meter
    c.prepare-made.new.meter c.prepared-on_left.result c.prepared-on_right.result c.in_ok-on_left.on_left.value c.in_ok-on_right.on_right.value c.prepare-made.result
    c.over_two-made.result c.prepared-on_left.ensures (c.in_ok-on_left.ensures ∙ ap (λ d. Ok (c.in_ok-on_left.on_left.value, d)) (sym c.get.ensures))
    c.prepared-on_right.ensures (c.in_ok-on_right.ensures ∙ ap (λ d. Ok (c.in_ok-on_right.on_right.value, d)) (sym c.get-2.ensures)) (record {
      stays = record { contents = e.contents; operator = e.operator; takes = e.takes; same_budget = e.same_budget; same_bound = e.same_bound };
      grows = e.grows;
      within = e.within;
      meter = e.meter;
      diff = e.diff;
      staged = e.staged;
      room = e.room;
    }) c.over_two-made.ensures.tree c.over_two-made.ensures.made)

pub prepared_over-returns-in_err-below : goal.prepared_over-returns-in_err-below
prepared_over-returns-in_err-below t c p = refused_over p _ _ _ _ _ _ _ c.prepared-below.result _ c.prepared-below.ensures c.from_residual.ensures.0

pub prepared_join-returns-in_err-on_left : goal.prepared_join-returns-in_err-on_left
prepared_join-returns-in_err-on_left t c p q = refused_left p q _ _ _ _ _ _ _ _ c.prepared-on_left.result _ c.prepared-on_left.ensures c.from_residual.ensures.0

pub prepared_join-returns-in_err-on_right : goal.prepared_join-returns-in_err-on_right
prepared_join-returns-in_err-on_right t c p q =
    refused_right p q _ _ _ _ _ _ _ _ _ _ c.prepared-on_left.result c.prepared-on_right.result _ c.prepared-on_left.ensures c.prepared-on_right.ensures
    c.from_residual-in_err-on_right.ensures.0

pub prepared_over-prepare-requires : goal.prepared_over-prepare-requires
prepared_over-prepare-requires t c = record {
  counts = room_left c.args.meter.now c.prepared-below.new.meter (budget c.args.input.now) (operator_budget c.args.node.now) (2 ^ 128) c.prepared-below.ensures.within
      c.requires.counts;
}
