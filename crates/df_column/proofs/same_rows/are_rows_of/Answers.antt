use Rattle.std.proofs.Common.{arith, ap, length, sym, ◌∙◌}
use Rattle.std.proofs.lemmas.Bool.{false≢true}
use Rattle.df_column.specs.Blocks.{block_rows, rows_of_blocks}
use Rattle.df_column.proofs.SameRows.{more_are_those, part_are_those}
use Rattle.df_column.proofs.same_rows.are_rows_of.Goals as goal

pub loop-done-preserved : goal.loop-done-preserved
loop-done-preserved c =
    let block = c.block_at-row.result in
    let other = c.block_at-other_row.result in
    let len = c.len.ensures ∙ ap length c.tags.ensures.tags in
    let len_other = c.len-in-loop-done.ensures ∙ ap length c.tags-in-loop-done.ensures.tags in
    record {
      within = omega (arith, c.min-many.ensures, c.loop-done-test.true);
      same = more_are_those (rows_of_blocks c.args.blocks.now) c.args.at (rows_of_blocks c.args.others.now) c.args.from c.loop-done.done c.min-many.result
          (block_rows block.0.now) block.1 (block_rows other.0.now) other.1 c.loop-done.invariant.same (c.has_rows_of.ensures.0 c.if-not-has_rows_of.false)
          (λ k d lt. c.block_at-row.ensures.along k d (omega (arith, len, lt, c.min-rest.ensures, c.min-many.ensures, c.block_at-row.ensures.within)))
          (λ k d lt. c.block_at-other_row.ensures.along k d (omega (arith, len_other, lt, c.min-rest.ensures, c.min-many.ensures, c.block_at-other_row.ensures.within)));
    }

pub returns-then-not-has_rows_of : goal.returns-then-not-has_rows_of
returns-then-not-has_rows_of c =
    let block = c.block_at-row.result in
    let other = c.block_at-other_row.result in
    let len = c.len.ensures ∙ ap length c.tags.ensures.tags in
    let len_other = c.len-in-loop-done.ensures ∙ ap length c.tags-in-loop-done.ensures.tags in (
      λ h. absurd (cc),
      λ all.
          let part = part_are_those (rows_of_blocks c.args.blocks.now) c.args.at (rows_of_blocks c.args.others.now) c.args.from c.args.count c.loop-done.done c.min-many.result
          (block_rows block.0.now) block.1 (block_rows other.0.now) other.1 all (omega (arith, c.min-many.ensures, c.loop-done-test.true))
          (λ k d lt. c.block_at-row.ensures.along k d (omega (arith, len, lt, c.min-rest.ensures, c.min-many.ensures, c.block_at-row.ensures.within)))
          (λ k d lt. c.block_at-other_row.ensures.along k d (omega (arith, len_other, lt, c.min-rest.ensures, c.min-many.ensures, c.block_at-other_row.ensures.within))) in
          absurd (false≢true (sym c.if-not-has_rows_of.true ∙ c.has_rows_of.ensures.1 part)),
    )
