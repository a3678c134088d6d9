use Rattle.std.proofs.Common.{sym, ap, ◌∙◌}
use Rattle.std.specs.FinMap as finite
use Rattle.df_column.specs.Tags.{tag_cmp}
use Rattle.df_delta.proofs.delta.Delta.into_entries.Goals as goal

pub returns-clause-all : goal.returns-clause-all
returns-clause-all c = sym (finite.entries-from_sorted tag_cmp _ c.self.invariant.0.rising) ∙ ap finite.entries c.self.view_is
