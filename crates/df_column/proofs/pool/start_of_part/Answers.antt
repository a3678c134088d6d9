use Rattle.std.proofs.Common.{arith}
use Rattle.df_column.proofs.Parts.{start_zero, start_more}
use Rattle.df_column.proofs.pool.start_of_part.Goals as goal

pub returns-then-place-eq0 : goal.returns-then-place-eq0
returns-then-place-eq0 c = start_zero 0 c.args.ends.now c.args.place (omega arith)

pub returns-else-place-eq0 : goal.returns-else-place-eq0
returns-else-place-eq0 c = start_more 0 c.args.ends.now c.args.place (λ e. omega arith)
