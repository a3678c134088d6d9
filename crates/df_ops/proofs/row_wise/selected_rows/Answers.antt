use Rattle.std.proofs.Common.{◌∙◌, length, map, ap, sym, subst}
use Rattle.df_expr.specs.Meters.{with_evals}
use Rattle.df_ops.proofs.Counts.{row_more}
use Rattle.df_ops.proofs.Steps.{mapped_more, all_done, made_is, made_has}
use Rattle.df_ops.specs.RowWise.{select_row, ArePhysical}
use Rattle.df_ops.proofs.row_wise.selected_rows.Goals as goal

pub loop-row-preserved : goal.loop-row-preserved
loop-row-preserved c =
    let physical : ArePhysical c.args.columns.now c.args.items.now c.as_slice.result.now =
    subst (ArePhysical c.args.columns.now c.args.items.now) (sym c.as_slice.ensures.value) c.in_ok-physical.ensures in
    record {
      selected =
          mapped_more _ _ _ _ _ _ _ c.loop-row-test.true c.row-item.is c.loop-row.invariant.selected
          (made_is _ _ _ (c.select_row-made.ensures.value c.args.columns.now c.args.items.now physical) c.in_ok-push_made.ensures.1) c.in_ok-push_made.ensures.2;
      counted =
          row_more c.loop-row.row-index (length c.in_ok-physical.physical.items) c.loop-row.meter _ c.loop-row.invariant.counted
          (made_has _ _ _ c.select_row-made.ensures.counted c.in_ok-push_made.ensures.1 ∙ ap (λ xs. with_evals (length xs) c.loop-row.meter) c.as_slice.ensures.value);
    }

pub returns : goal.returns
returns c =
    all_done (map (select_row c.args.columns.now c.args.items.now)) c.args.rows.now _ _ _ c.loop-row-test.false c.loop-row.invariant.selected c.from_vec.ensures
