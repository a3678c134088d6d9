use Rattle.std.proofs.Common.{sym}
use Rattle.df_column.proofs.Parts.{part_at}
use Rattle.df_column.proofs.pool.part.Goals as goal

pub returns : goal.returns
returns c = λ d. rw (c.span-start.ensures.start, c.span-start.ensures.end) (sym (part_at 0 c.args.bytes.now c.args.ends.now c.args.place d c.requires.place))
