use Rattle.std.proofs.Common.{◌∙◌, [], ◌∷◌, ap, map}
use Rattle.std.proofs.lemmas.Result.{IfOk-weaker}
use Rattle.df_ops.specs.Places.{placed_cell}
use Rattle.df_ops.proofs.PlacesFacts.{placed_column}
use Rattle.df_ops.proofs.one_column.with_column_row.Goals as goal

pub returns : goal.returns
returns c columns name dtype at =
    let places = c.args.places.now in
    IfOk-weaker c.placed_row.result _ _
    (λ r e. e
    ∙ (ap (λ cells. map (placed_cell cells (c.in_ok-copy.field-0 ∷ [])) places) c.as_slice.ensures
    ∙ (ap (λ v. map (placed_cell c.args.row.now (v ∷ [])) places) c.in_ok-copy.ensures.value
    ∙ placed_column columns name dtype c.args.row.now c.args.cell.now places at)))
    c.placed_row.ensures
