use Rattle.std.proofs.Common.{◌∙◌, ap, sym, subst}
use Rattle.std.specs.Arc.{arc_value}
use Rattle.std.specs.FinMap as finite
use Rattle.df_column.specs.Blocks.{rows_of_blocks}
use Rattle.df_column.specs.TableBlocks.{IsTable}
use Rattle.df_column.proofs.TableLemmas.{same_table}
use Rattle.df_column.proofs.table.Table.share.Goals as goal

pub invariant_of-result : goal.invariant_of-result
invariant_of-result c =
    let schema = arc_value c.self.inside.schema in
    subst (λ s. IsTable s c.in_ok-blocks.blocks) (ap (λ t. t.schema) c.self.view_is ∙ sym c.in_ok-schema.ensures)
    (subst (IsTable schema) (sym c.in_ok-blocks.ensures) c.self.invariant)

pub returns : goal.returns
returns c = same_table _ c.args.self.now c.in_ok-schema.ensures
    (ap (λ bs. finite.from_sorted (rows_of_blocks bs)) c.in_ok-blocks.ensures ∙ ap (λ t. t.rows) c.self.view_is)
