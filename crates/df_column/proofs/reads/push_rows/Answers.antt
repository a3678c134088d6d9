use Rattle.std.proofs.Common.{◌∙◌, ap, arith, length}
use Rattle.df_column.proofs.ReadLemmas.{block_row_step, block_rows_end}
use Rattle.df_column.proofs.reads.push_rows.Goals as goal

pub loop-at-preserved : goal.loop-at-preserved
loop-at-preserved c =
    let l = c.len-at-end.ensures ∙ ap length c.tags.ensures.tags in
    rw c.in_ok-push.ensures.items (block_row_step c.args.block.now c.loop-at.out.items _ c.loop-at.at c.in_ok-row.row (omega (arith, l)) c.in_ok-row.ensures c.loop-at.invariant)

pub returns : goal.returns
returns c =
    let l = c.len-at-end.ensures ∙ ap length c.tags.ensures.tags in
    block_rows_end c.args.block.now c.loop-at.out.items _ c.loop-at.at (omega (arith, l)) c.loop-at.invariant
