use Rattle.std.proofs.Common.{◌∙◌, length, map, ap, sym, subst}
use Rattle.df_expr.specs.Meters.{with_evals}
use Rattle.df_ops.proofs.Counts.{row_more}
use Rattle.df_ops.proofs.Steps.{mapped_more, all_done, made_is, made_has}
use Rattle.df_ops.specs.RowWise.{with_columns_row, ArePhysical}
use Rattle.df_ops.proofs.row_wise.added_rows.Goals as goal

pub loop-row-preserved : goal.loop-row-preserved
loop-row-preserved c =
    let physical : ArePhysical c.args.columns.now c.args.items.now c.as_slice.result.now =
    subst (ArePhysical c.args.columns.now c.args.items.now) (sym c.as_slice.ensures.value) c.in_ok-physical.ensures in
    record {
      added =
          mapped_more _ _ _ _ _ _ _ c.loop-row-test.true c.row-item.is c.loop-row.invariant.added
          (made_is _ _ _ (c.with_columns_row-made.ensures.value c.args.columns.now c.args.items.now physical (c.as_slice-places.ensures.value ∙ c.in_ok-places.ensures)) c.in_ok-push_made.ensures.1) c.in_ok-push_made.ensures.2;
      counted =
          row_more c.loop-row.row-index (length c.in_ok-physical.physical.items) c.loop-row.meter _ c.loop-row.invariant.counted
          (made_has _ _ _ c.with_columns_row-made.ensures.counted c.in_ok-push_made.ensures.1 ∙ ap (λ xs. with_evals (length xs) c.loop-row.meter) c.as_slice.ensures.value);
    }

pub returns : goal.returns
returns c =
    all_done (map (with_columns_row c.args.columns.now c.args.items.now)) c.args.rows.now _ _ _ c.loop-row-test.false c.loop-row.invariant.added c.from_vec.ensures
