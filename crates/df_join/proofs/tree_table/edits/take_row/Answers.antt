use Rattle.std.proofs.Common.{sym, ◌∙◌}
use Rattle.df_tree.specs.Leaves.{items_in}
use Rattle.df_join.proofs.Places.{none_to_take, stands_within, taken_out}
use Rattle.df_join.proofs.tree_table.edits.take_row.Goals as goal

pub returns-then-not-stands_at : goal.returns-then-not-stands_at
returns-then-not-stands_at c = λ h. none_to_take c.args.tag (items_in c.args.rows.now) c.place_of-index.result h c.place_of-index.ensures (sym c.stands_at.ensures ∙ c.if-not-stands_at.true)

pub remove-requires : goal.remove-requires
remove-requires c = stands_within c.args.tag (items_in c.args.rows.now) c.place_of-index.result (sym c.stands_at.ensures ∙ c.if-not-stands_at.false)

pub returns : goal.returns
returns c = λ h.
    c.in_ok-taken.ensures.gone
    ∙ taken_out c.args.tag (items_in c.args.rows.now) c.place_of-index.result h c.place_of-index.ensures (sym c.stands_at.ensures ∙ c.if-not-stands_at.false)
