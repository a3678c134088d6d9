use Rattle.std.proofs.Common.{◌≡◌, ◌++◌, ◌+◌, Some, arith, subst, take}
use Rattle.std.specs.Arc.{arc_value}
use Rattle.df_column.specs.Blocks.{block_rows, rows_of_blocks}
use Rattle.df_column.specs.MinMaxCells.{tags_above}
use Rattle.df_column.proofs.SkippingLemmas.{rows_more, tags_more}
use Rattle.df_column.proofs.skipping.push_tags_in_run.Goals as goal

pub loop-at-preserved : goal.loop-at-preserved
loop-at-preserved c =
    let b = arc_value c.get.result.now in
    let run = c.args.run.now in
    let made = subst (λ b. c.push_tags_in_block.new.tags.items ≡ c.loop-at.tags.items ++ tags_above (Some c.args.index) c.args.value.now (block_rows b)) c.deref.ensures c.in_ok-push_tags_in_block.ensures in
    tags_more (Some c.args.index) c.args.value.now (rows_of_blocks (take c.loop-at.at run)) (block_rows b) (rows_of_blocks (take (c.loop-at.at + 1) run)) c.args.tags.now.items c.loop-at.tags.items c.push_tags_in_block.new.tags.items
    (rows_more run c.loop-at.at b (omega (arith, c.loop-at-test.true, c.len-at-end.ensures.value)) (c.get.ensures b)) c.loop-at.invariant made
