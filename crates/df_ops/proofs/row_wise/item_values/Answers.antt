use Rattle.std.proofs.Common.{◌+◌, ◌∙◌, length, map, refl, arith}
use Rattle.df_expr.specs.Meters.{CountsAtMost}
use Rattle.df_expr.specs.Physical.{physical_value}
use Rattle.df_ops.proofs.Counts.{on_err, one_more}
use Rattle.df_ops.proofs.Steps.{answered, mapped_more, all_done, made_is}
use Rattle.df_ops.proofs.row_wise.item_values.Goals as goal

pub loop-item-preserved : goal.loop-item-preserved
loop-item-preserved c = record {
  cells =
      mapped_more _ _ _ _ _ _ _ (omega arith) c.item-item.is c.loop-item.invariant.cells
      (made_is _ _ _ c.to_cell.ensures.value c.in_ok-push_made.ensures.1 ∙ c.eval.ensures.value) c.in_ok-push_made.ensures.2;
  counted = one_more _ _ _ _ c.loop-item.invariant.counted c.eval.ensures.counted;
}

pub returns-clause-value : goal.returns-clause-value
returns-clause-value c =
    answered _ _ _ c.new.ensures
    (all_done (map (λ p. physical_value p c.args.row.now)) c.args.items.now _ _ _ c.loop-item-test.false c.loop-item.invariant.cells refl)

pub returns-in_err-push_made-clause-at_most : goal.returns-in_err-push_made-clause-at_most
returns-in_err-push_made-clause-at_most c =
    let most : CountsAtMost (length c.args.items.now) c.args.meter.now c.eval.new.meter =
    (c.loop-item.item-index + 1, (omega arith, one_more _ _ _ _ c.loop-item.invariant.counted c.eval.ensures.counted)) in
    on_err _ _ most
