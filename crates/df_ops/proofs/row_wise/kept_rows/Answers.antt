use Rattle.std.proofs.Common.{arith, [], ◌+◌, ◌∙◌, ap}
use Rattle.df_expr.specs.declared.meter.Meter.{Meter}
use Rattle.df_ops.proofs.Steps.{joined_more, all_done}
use Rattle.std.proofs.lemmas.List.Elements.{filter-append}
use Rattle.df_ops.specs.RowWise.{keeps, filter_rows}
use Rattle.df_ops.proofs.row_wise.kept_rows.Goals as goal

pub loop-row-preserved : goal.loop-row-preserved
loop-row-preserved c = record {
  kept =
      joined_more (filter_rows c.args.columns.now c.args.predicate.now) (filter-append (keeps c.args.columns.now c.args.predicate.now))
      [] c.args.rows.now _ _ _ _ (omega arith) c.row-item.is c.loop-row.invariant.kept
      (c.in_ok-keep.ensures.value c.args.columns.now c.args.predicate.now c.loop-row.invariant.physical);
  physical = c.loop-row.invariant.physical;
  counted = ap (λ (m : Meter). m.evals) c.keep.ensures.counted ∙ ap (λ n. n + 1) c.loop-row.invariant.counted;
}

pub returns : goal.returns
returns c =
    all_done (filter_rows c.args.columns.now c.args.predicate.now) c.args.rows.now _ _ _ c.loop-row-test.false c.loop-row.invariant.kept c.from_vec.ensures
