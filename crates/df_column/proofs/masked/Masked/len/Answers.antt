use Rattle.std.proofs.Common.{ap, ◌∙◌, sym, length}
use Rattle.df_column.proofs.Masks.{length_masked}
use Rattle.df_column.proofs.masked.Masked.len.Goals as goal

pub returns : goal.returns
returns g c = ap length c.deref-values.ensures.value ∙ sym (length_masked c.self.inside.nulls.items c.self.inside.values.items) ∙ ap length c.self.view_is
