use Rattle.std.proofs.Common.{sym, ap, ◌∙◌, map, ◌<◌, length, subst}
use Rattle.df_column.specs.Columns.{column_cells}
use Rattle.df_column.specs.Rows.{row_at}
use Rattle.std.specs.Arc.{arc_value}
use Rattle.std.proofs.lemmas.Result.{IfOk-weaker}
use Rattle.df_column.proofs.SpotLemmas.{at_spot}
use Rattle.df_column.proofs.spots.row_at.Goals as goal

pub row-requires : goal.row-requires
row-requires c =
    let b = arc_value c.get.result.now in
    let here = subst (λ p. c.locate-spot.result.row < length p.tags) (sym (c.get.ensures b)) (c.locate-spot.ensures.in_block b) in
    subst (λ p. c.locate-spot.result.row < length p.tags) (sym c.deref.ensures) here

pub returns : goal.returns
returns c =
    IfOk-weaker c.row.result _ _
    (λ row h. λ d. h ∙ ap (λ b. row_at (map column_cells b.columns) c.locate-spot.result.row) c.deref.ensures
    ∙ ap (λ r. r.1) (sym (at_spot c.args.blocks.now c.args.at c.locate-spot.result.block c.locate-spot.result.row (arc_value c.get.result.now) (record { first = 0; second = 0; third = 0 }) c.locate-spot.ensures (c.get.ensures (arc_value c.get.result.now)) d)))
    c.row.ensures
