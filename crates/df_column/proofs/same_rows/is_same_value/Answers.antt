use Rattle.std.proofs.Common.{◌∙◌, Some, ap, sym}
use Rattle.std.specs.Cmp.{Equal-is}
use Rattle.std.specs.Ordering.{is_eq}
use Rattle.df_value.specs.CellOrder.{cell_cmp}
use Rattle.df_value.specs.CellOrders.{exact, to_itself}
use Rattle.df_column.proofs.same_rows.is_same_value.Goals as goal

pub returns-in-Some-Some : goal.returns-in-Some-Some
returns-in-Some-Some g c =
    let cell_of = g.T.CellValue.cell_of in
    let a = cell_of (Some c.in-Some-Some.a) in
    let b = cell_of (Some c.in-Some-Some.b) in
    let first = ap cell_of c.in-Some-Some.is-0 in
    let second = ap cell_of c.in-Some-Some.is-1 in (
      λ h. first ∙ exact a b (sym c.compare.ensures ∙ (Equal-is c.compare.result).0 (sym c.is_eq.ensures ∙ h)) ∙ sym second,
      λ e. c.is_eq.ensures ∙ ap is_eq (c.compare.ensures ∙ ap (cell_cmp a) (sym (sym first ∙ e ∙ second)) ∙ to_itself a),
    )
