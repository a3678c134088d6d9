use Rattle.std.proofs.Common.{sym, ap, ◌∙◌, map, ◌<◌, length, subst}
use Rattle.df_value.specs.Rows.{row_eq}
use Rattle.df_column.specs.Columns.{column_cells}
use Rattle.df_column.specs.Rows.{row_at}
use Rattle.std.specs.Arc.{arc_value}
use Rattle.df_column.proofs.SpotLemmas.{at_spot}
use Rattle.df_column.proofs.spots.is_row_at.Goals as goal

pub is_row-requires : goal.is_row-requires
is_row-requires c =
    let b = arc_value c.get.result.now in
    let here = subst (λ p. c.locate-spot.result.row < length p.tags) (sym (c.get.ensures b)) (c.locate-spot.ensures.in_block b) in
    subst (λ p. c.locate-spot.result.row < length p.tags) (sym c.deref.ensures) here

pub returns : goal.returns
returns c = λ d.
    c.is_row.ensures
    ∙ ap (λ b. row_eq (row_at (map column_cells b.columns) c.locate-spot.result.row) c.args.row.now) c.deref.ensures
    ∙ ap (λ r. row_eq r.1 c.args.row.now) (sym (at_spot c.args.blocks.now c.args.at c.locate-spot.result.block c.locate-spot.result.row (arc_value c.get.result.now) (record { first = 0; second = 0; third = 0 }) c.locate-spot.ensures (c.get.ensures (arc_value c.get.result.now)) d))
