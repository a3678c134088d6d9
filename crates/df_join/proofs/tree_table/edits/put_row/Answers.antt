use Rattle.std.proofs.Common.{ap, subst, sym, ◌∙◌}
use Rattle.df_tree.specs.Leaves.{items_in}
use Rattle.df_join.specs.Places.{IsPlace, stands_at}
use Rattle.df_join.proofs.Places.{place_within, put_between, put_over, stands_within}
use Rattle.df_join.proofs.Staging.{match_map}
use Rattle.df_join.proofs.tree_table.edits.put_row.Goals as goal

pub set-requires : goal.set-requires
set-requires c = stands_within c.tag-2.result (items_in c.args.rows.now) c.place_of-index.result (sym c.stands_at.ensures ∙ c.if-stands_at.true)

pub returns-then-stands_at : goal.returns-then-stands_at
returns-then-stands_at c =
    let place = subst (λ t. IsPlace t (items_in c.args.rows.now) c.place_of-index.result) c.tag.ensures c.place_of-index.ensures in
    let stands = ap (λ t. stands_at t (items_in c.args.rows.now) c.place_of-index.result) (sym c.tag-2.ensures) ∙ sym c.stands_at.ensures ∙ c.if-stands_at.true in
    match_map _ c.set.result c.set.ensures (λ is h. is ∙ put_over c.args.row.0 (items_in c.args.rows.now) c.place_of-index.result c.args.row.1 place stands)

pub insert-requires : goal.insert-requires
insert-requires c = place_within c.tag.result (items_in c.args.rows.now) c.place_of-index.result c.place_of-index.ensures

pub returns : goal.returns
returns c =
    let place = subst (λ t. IsPlace t (items_in c.args.rows.now) c.place_of-index.result) c.tag.ensures c.place_of-index.ensures in
    let stands = ap (λ t. stands_at t (items_in c.args.rows.now) c.place_of-index.result) (sym c.tag-2.ensures) ∙ sym c.stands_at.ensures ∙ c.if-stands_at.false in
    match_map _ c.insert.result c.insert.ensures (λ is h. is ∙ put_between c.args.row.0 (items_in c.args.rows.now) c.place_of-index.result c.args.row.1 place stands)
