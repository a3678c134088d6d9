use Rattle.df_ops.specs.Ranks.{dense_rank_of}
use Rattle.df_value.specs.Rows.{cell_at}
use Rattle.std.proofs.Common.{arith, ◌∙◌, ap, map, refl}
use Rattle.df_ops.proofs.Steps.{mapped_more, all_done}
use Rattle.df_ops.proofs.ranks.all_ranked.Goals as goal

pub loop-row-preserved : goal.loop-row-preserved
loop-row-preserved c = mapped_more _ _ _ _ _ _ _ (omega arith) c.row-item.is c.loop-row.invariant (cc) c.in_ok-push.ensures.items

pub returns : goal.returns
returns c =
    let rows = c.args.rows.now in
    let index = c.args.index in
    all_done (map (λ r. dense_rank_of c.as_slice-distinct.result.now (cell_at index r))) rows _ _ _ c.loop-row-test.false c.loop-row.invariant refl
    ∙ ap (λ keys. map (λ r. dense_rank_of keys (cell_at index r)) rows) (c.as_slice-distinct.ensures.value ∙ c.in_ok-distinct.ensures.value)
