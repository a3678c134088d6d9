use Rattle.std.proofs.Common.{arith, take}
use Rattle.df_column.specs.Blocks.{rows_of_blocks}
use Rattle.df_column.proofs.SharedLemmas.{apart_first, apart_nothing}
use Rattle.df_column.proofs.sharing.untouched.Goals as goal

pub returns-in-Some-clause-apart : goal.returns-in-Some-clause-apart
returns-in-Some-clause-apart c =
    apart_first (rows_of_blocks (take c.min.result c.args.blocks.now)) c.args.entries.now c.in-Some.first.now c.in-Some.ensures.value c.requires.entries
    (c.whole_blocks_below.ensures c.min.result (omega (arith, c.min.ensures)))

pub returns-in-None-clause-apart : goal.returns-in-None-clause-apart
returns-in-None-clause-apart c = apart_nothing (rows_of_blocks (take _ c.args.blocks.now)) c.args.entries.now c.in-None.ensures.value
