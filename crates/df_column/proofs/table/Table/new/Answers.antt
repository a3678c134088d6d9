use Rattle.std.proofs.Common.{ap, ◌∙◌, [], length}
use Rattle.std.specs.FinMap as finite
use Rattle.df_value.specs.declared.cell.Cell.{Cell}
use Rattle.std.specs.Prelude.{List}
use Rattle.df_column.specs.Blocks.{rows_of_blocks}
use Rattle.df_column.specs.Tags.{tag_cmp}
use Rattle.df_column.proofs.table.Table.new.Goals as goal

pub returns-clause-rows : goal.returns-clause-rows
returns-clause-rows c = ap (λ bs. finite.from_sorted {R = tag_cmp} (rows_of_blocks bs)) c.new-2.ensures ∙ finite.empty_of_len {X = List Cell} (finite.from_sorted {R = tag_cmp} []) (finite.len-entries {X = List Cell} (finite.from_sorted {R = tag_cmp} []) ∙ ap length (finite.entries-from_sorted {X = List Cell} tag_cmp [] tt))
