use Rattle.std.proofs.Common.{◌++◌, ◌∷◌, [], ap, ◌∙◌, arith}
use Rattle.df_column.proofs.ReadLemmas.{entries_are}
use Rattle.df_column.specs.Tables.{TableParts}
use Rattle.df_tree.specs.Leaves.{items_in}
use Rattle.df_tree.proofs.LeafLemmas.{take_past}
use Rattle.df_join.proofs.Places.{one_more_taken}
use Rattle.df_join.proofs.tree_table.TreeTable.tagged_rows.Goals as goal

pub loop-index-init : goal.loop-index-init
loop-index-init c = c.in_ok-out.ensures.items

pub loop-index-preserved : goal.loop-index-preserved
loop-index-preserved c =
    c.in_ok-push.ensures.items
    ∙ ap (λ t. c.loop-index.out.items ++ (t, c.in_ok-copy.field-0) ∷ []) c.tag.ensures
    ∙ ap (λ r. c.loop-index.out.items ++ (c.get-row.result.now.0, r) ∷ []) (c.in_ok-copy.ensures ∙ c.row.ensures)
    ∙ ap (λ out. out ++ c.get-row.result.now ∷ []) c.loop-index.invariant
    ∙ one_more_taken (items_in c.self.inside.rows) c.loop-index.index c.get-row.result.now c.get-row.ensures

pub returns : goal.returns
returns c =
    let rows = items_in c.self.inside.rows in
    c.loop-index.invariant ∙ entries_are rows _ c.args.self.now.rows (take_past rows c.loop-index.index (omega (arith, c.len-count.ensures, c.loop-index-test.false))) c.self.invariant (ap (λ (t : TableParts). t.rows) c.self.view_is)
