use Rattle.std.proofs.Common.{arith, take}
use Rattle.df_column.specs.Blocks.{rows_of_blocks}
use Rattle.df_column.proofs.SharedLemmas.{apart_first, apart_nothing, before_last}
use Rattle.df_column.proofs.sharing.gap.Goals as goal

pub returns-in_default-clause-before : goal.returns-in_default-clause-before
returns-in_default-clause-before c = apart_nothing (rows_of_blocks (take c.len.result c.args.blocks.now)) c.args.entries.now c.in_default.ensures.value

pub returns-clause-before : goal.returns-clause-before
returns-clause-before c =
    apart_first (rows_of_blocks (take c.min-at.result c.args.blocks.now)) c.args.entries.now c.in-Some.first.now c.in-Some.ensures.value c.requires.entries
    (c.whole_blocks_below.ensures c.min-at.result (omega (arith, c.min-at.ensures)))

pub returns-clause-behind : goal.returns-clause-behind
returns-clause-behind c =
    before_last c.args.entries.now c.in_ok-last.last.now _ c.in_ok-last.ensures.value c.requires.entries (c.blocks_up_to.ensures c.min-at.result c.if-blocks_up_to-at.false)
