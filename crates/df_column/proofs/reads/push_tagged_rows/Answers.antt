use Rattle.std.proofs.Common.{ap, arith, length}
use Rattle.df_column.specs.declared.tag.Tag.{Tag}
use Rattle.df_column.proofs.ReadLemmas.{tagged_row_step, tagged_rows_end}
use Rattle.df_column.proofs.reads.push_tagged_rows.Goals as goal

pub loop-at-preserved : goal.loop-at-preserved
loop-at-preserved c =
    let l = ap length c.tags-tags.ensures.tags in
    let none : Tag = record { first = 0; second = 0; third = 0 } in
    rw (c.in_ok-push.ensures.items, c.get.ensures none, c.tags-tags.ensures.tags) (tagged_row_step c.args.block.now c.loop-at.out.items _ c.loop-at.at c.in_ok-row.row none (omega (arith, l)) c.in_ok-row.ensures c.loop-at.invariant)

pub returns : goal.returns
returns c =
    let l = ap length c.tags-tags.ensures.tags in
    tagged_rows_end c.args.block.now c.loop-at.out.items _ c.loop-at.at (omega (arith, l)) c.loop-at.invariant
