use Rattle.std.proofs.Common.{◌≡◌, Some, ap, subst, sym, ◌∙◌}
use Rattle.std.specs.Prelude.{T}
use Rattle.std.specs.FinMap as finite
use Rattle.df_column.specs.Changes.{edit}
use Rattle.df_column.specs.Tables.{TableParts}
use Rattle.df_column.specs.Tags.{tag_cmp}
use Rattle.df_tree.specs.Leaves.{items_in}
use Rattle.df_join.proofs.Places.{edit_is, edit_sorted}
use Rattle.df_join.proofs.Staging.{both_ways, on_match}
use Rattle.df_join.proofs.tree_table.TreeTable.put.Goals as goal

pub invariant_of-self : goal.invariant_of-self
invariant_of-self c = both_ways c.put_row.result c.put_row.ensures
    (λ made. edit_sorted (items_in c.self.inside.rows) (items_in c.put_row.new.rows) c.args.tag (Some c.args.row) c.self.invariant (made c.self.invariant ∙ ap (λ r. edit tag_cmp (items_in c.self.inside.rows) r.0 (Some r.1)) c.new.ensures))
    (λ same. subst (λ es. T (finite.is_sorted tag_cmp es)) (sym same) c.self.invariant)

pub returns : goal.returns
returns c = on_match _ c.put_row.result c.put_row.ensures (λ made i. record {
  schema = ap (λ (t : TableParts). t.schema) c.self.view_is i;
  rows = edit_is (items_in c.self.inside.rows) (items_in c.put_row.new.rows) c.args.self.now.rows c.args.tag (Some c.args.row) c.self.invariant (ap (λ (t : TableParts). t.rows) c.self.view_is) (made c.self.invariant ∙ ap (λ r. edit tag_cmp (items_in c.self.inside.rows) r.0 (Some r.1)) c.new.ensures) i;
})
