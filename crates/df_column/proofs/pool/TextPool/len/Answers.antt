use Rattle.std.proofs.Common.{ap, ◌∙◌, sym, length}
use Rattle.df_column.proofs.Parts.{length-parts}
use Rattle.df_column.proofs.pool.TextPool.len.Goals as goal

pub returns : goal.returns
returns c = ap length c.deref-ends.ensures.value ∙ sym (length-parts 0 c.self.inside.bytes.items c.self.inside.ends.items) ∙ ap length c.self.view_is
