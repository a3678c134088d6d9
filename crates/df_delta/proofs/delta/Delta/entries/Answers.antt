use Rattle.std.proofs.Common.{sym, ap, ◌∙◌, map, length}
use Rattle.std.proofs.lemmas.List.{length-map}
use Rattle.std.specs.FinMap as finite
use Rattle.df_column.specs.Tables.{entry_change}
use Rattle.df_column.specs.Tags.{tag_cmp}
use Rattle.df_delta.proofs.delta.Delta.entries.Goals as goal

pub returns-clause-all : goal.returns-clause-all
returns-clause-all c = ap (map entry_change) c.deref.ensures.value ∙ sym (finite.entries-from_sorted tag_cmp _ c.self.invariant.0.rising) ∙ ap finite.entries c.self.view_is

pub returns-clause-len : goal.returns-clause-len
returns-clause-len c = sym (length-map _ entry_change) ∙ ap length (returns-clause-all c) ∙ sym (finite.len-entries c.args.self.now)
