use Rattle.std.proofs.Common.{arith, ◌∙◌, ◌++◌, ap, map, refl}
use Rattle.df_ops.proofs.Steps.{mapped_more, all_done, made_is}
use Rattle.df_ops.proofs.joins.each_beside.Goals as goal

pub loop-rest-preserved : goal.loop-rest-preserved
loop-rest-preserved c =
    mapped_more _ _ _ _ _ _ _ (omega arith) c.rest-item.is c.loop-rest.invariant
    ((made_is _ _ _ c.row_beside.ensures c.in_ok-push_made.ensures.1) ∙ ap (λ rest. c.args.left.now ++ rest) c.as_slice.ensures) c.in_ok-push_made.ensures.2

pub returns : goal.returns
returns c =
    all_done (map (λ rest. c.args.left.now ++ rest)) c.args.rests.now _ _ _ c.loop-rest-test.false c.loop-rest.invariant refl
