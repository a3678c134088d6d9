use Rattle.std.proofs.Common.{ap, sym, arith, ◌∙◌}
use Rattle.std.specs.Ordering.{eq_by_cmp, is_eq}
use Rattle.df_column.specs.Tags.{tag_cmp}
use Rattle.df_tree.specs.Leaves.{items_in}
use Rattle.df_join.proofs.Places.{stands_past, stands_there}
use Rattle.df_join.proofs.tree_table.edits.stands_at.Goals as goal

pub returns-then-index-len : goal.returns-then-index-len
returns-then-index-len c = sym (stands_past c.args.tag (items_in c.args.rows.now) c.args.index (omega (arith, c.len.ensures, c.if-index-len.true)))

pub returns : goal.returns
returns c =
    c.is_eq.ensures ∙ ap is_eq c.cmp.ensures ∙ ap (eq_by_cmp tag_cmp c.args.tag) c.tag.ensures
    ∙ sym (stands_there c.args.tag (items_in c.args.rows.now) c.args.index c.get.result.now c.get.ensures)
