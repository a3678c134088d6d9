use Rattle.df_column.proofs.Parts.{in_bytes}
use Rattle.df_column.proofs.pool.span.Goals as goal

pub returns-clause-ordered : goal.returns-clause-ordered
returns-clause-ordered c = rw c.start_of_part.ensures (in_bytes 0 c.args.len c.args.ends.now c.args.place c.requires.rising c.requires.place).ordered

pub returns-clause-within : goal.returns-clause-within
returns-clause-within c = (in_bytes 0 c.args.len c.args.ends.now c.args.place c.requires.rising c.requires.place).within
