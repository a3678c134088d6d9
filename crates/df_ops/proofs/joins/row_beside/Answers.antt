use Rattle.df_value.specs.declared.cell.Cell.{Cell}
use Rattle.std.proofs.Common.{◌∙◌, ◌++◌, List, [], ◌∷◌, ap, refl, sym, append-nil}
use Rattle.df_ops.proofs.Steps.{all_done, answered, joined_more, made_is}
use Rattle.df_ops.proofs.joins.row_beside.Goals as goal

pub returns : goal.returns
returns c =
    answered _ _ _ c.new.ensures
    (all_done (λ cells. c.args.left.now ++ cells) c.args.rest.now _ _ _ c.loop-cell-test.false c.loop-cell.invariant refl)

pub loop-cell-preserved : goal.loop-cell-preserved
loop-cell-preserved c =
    joined_more (λ (cells : List Cell). cells) (λ xs ys. refl) c.args.left.now c.args.rest.now _ _ _ _ c.loop-cell-test.true c.cell-item.is c.loop-cell.invariant
    (c.in_ok-push_made.ensures.2 ∙ ap (λ (v : Cell). c.loop-cell.row.items ++ v ∷ []) (made_is _ _ _ c.copy.ensures.value c.in_ok-push_made.ensures.1))

pub loop-cell-init : goal.loop-cell-init
loop-cell-init c = c.in_ok-row.ensures ∙ (c.as_slice.ensures ∙ sym (append-nil _))
