use Rattle.std.proofs.Common.{List, ap, ◌∙◌}
use Rattle.std.specs.FinMap as finite
use Rattle.df_value.specs.declared.cell.Cell.{Cell}
use Rattle.df_column.specs.Tags.{tag_cmp}
use Rattle.df_join.proofs.Places.{no_rows}
use Rattle.df_join.proofs.tree_table.TreeTable.new.Goals as goal

pub returns-clause-rows : goal.returns-clause-rows
returns-clause-rows c = ap (finite.from_sorted {X = List Cell} {R = tag_cmp}) (ap (λ p. p.0) c.make_shared.ensures.alike ∙ c.in_ok-rows.ensures) ∙ no_rows
