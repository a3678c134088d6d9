use Rattle.std.proofs.Common.{arith, map, refl}
use Rattle.df_value.specs.Rows.{cell_at}
use Rattle.df_ops.specs.Ranks.{min_rank_of}
use Rattle.df_ops.proofs.Steps.{mapped_more, all_done}
use Rattle.df_ops.proofs.ranks.all_min_ranked.Goals as goal

pub loop-row-preserved : goal.loop-row-preserved
loop-row-preserved c =
    mapped_more (λ r. min_rank_of c.args.index c.args.rows.now (cell_at c.args.index r)) _ _ _ _ _ _ (omega arith) c.row-item.is c.loop-row.invariant
    c.rank_among.ensures c.in_ok-push.ensures.items

pub returns : goal.returns
returns c =
    let rows = c.args.rows.now in
    let index = c.args.index in
    all_done (map (λ r. min_rank_of index rows (cell_at index r))) rows _ _ _ c.loop-row-test.false c.loop-row.invariant refl
