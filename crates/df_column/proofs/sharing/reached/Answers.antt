use Rattle.std.proofs.Common.{arith, drop}
use Rattle.df_column.specs.Blocks.{rows_of_blocks}
use Rattle.df_column.proofs.SharedLemmas.{before_last, below_at, nothing_before}
use Rattle.df_column.proofs.sharing.reached.Goals as goal

pub returns-in-Some-clause-apart : goal.returns-in-Some-clause-apart
returns-in-Some-clause-apart c =
    before_last c.args.entries.now c.in-Some.last.now (rows_of_blocks (drop c.min.result c.args.blocks.now)) c.in-Some.ensures.value c.requires.entries
    (below_at c.in-Some.last.now.tag c.args.blocks.now c.blocks_up_to.result c.min.result c.blocks_up_to.ensures (λ lt. omega (arith, lt, c.min.ensures, c.max.ensures, c.len.ensures)))

pub returns-in-None-clause-apart : goal.returns-in-None-clause-apart
returns-in-None-clause-apart c = nothing_before c.args.entries.now (rows_of_blocks (drop c.args.at c.args.blocks.now)) c.in-None.ensures.value
