use Rattle.std.proofs.Common.{sym, ap, ◌∙◌}
use Rattle.std.specs.FinMap as finite
use Rattle.df_column.specs.Tags.{tag_cmp}
use Rattle.df_column.proofs.table.Table.blocks.Goals as goal

pub returns-clause-rows : goal.returns-clause-rows
returns-clause-rows c = sym (finite.entries-from_sorted tag_cmp _ c.self.invariant.sorted) ∙ ap (λ t. finite.entries t.rows) c.self.view_is
