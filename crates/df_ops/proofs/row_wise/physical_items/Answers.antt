use Rattle.std.proofs.Common.{◌∙◌, map, arith, ap, [], ◌∷◌, refl}
use Rattle.std.proofs.lemmas.List.{map-append}
use Rattle.df_expr.specs.Physical.{physical_value, IsPhysical}
use Rattle.df_expr.specs.Value.{value_of}
use Rattle.df_ops.specs.RowWise.{select_row}
use Rattle.df_ops.proofs.Steps.{mapped_more, all_done, made_has}
use Rattle.df_ops.proofs.row_wise.physical_items.Goals as goal

pub loop-item-preserved : goal.loop-item-preserved
loop-item-preserved c row =
    mapped_more (λ i. value_of i.1 c.args.columns.now row) _ _ _ _ _ (physical_value c.in_ok-push_made.ensures.0 row) (omega arith) c.item-item.is (c.loop-item.invariant row)
    (made_has (IsPhysical c.item-item.result.1 c.args.columns.now) _ _ c.new.ensures c.in_ok-push_made.ensures.1 row)
    (ap (map (λ p. physical_value p row)) c.in_ok-push_made.ensures.2 ∙ map-append (λ p. physical_value p row) c.loop-item.made.items (c.in_ok-push_made.ensures.0 ∷ []))

pub returns : goal.returns
returns c row =
    all_done (λ items. select_row c.args.columns.now items row) c.args.items.now _ _ _ c.loop-item-test.false (c.loop-item.invariant row) refl
