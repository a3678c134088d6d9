use Rattle.std.proofs.Common.{◌∙◌, ap, map, subst, sym}
use Rattle.df_expr.specs.Physical.{physical_value}
use Rattle.df_ops.specs.Places.{placed_cell, places_of}
use Rattle.df_ops.specs.RowWise.{ArePhysical, with_columns_row}
use Rattle.df_nodes.proofs.SameOutputs.{mapped_is, mapped_rows, count_physical, placed_is}
use Rattle.df_nodes.proofs.map.LiveMap.with_columns.Goals as goal

pub returns-clause-output : goal.returns-clause-output
returns-clause-output c t =
    let schema = c.args.schema.now in
    let items = c.args.items.now in
    let is = c.as_slice-columns.ensures ∙ c.columns.ensures.value in
    let made = c.from_vec-2.result in
    let places = c.from_vec.result in
    mapped_is (λ row. map (placed_cell row (map (λ p. physical_value p row) made)) places) (with_columns_row schema items)
    (placed_is schema items made places
    (subst (ArePhysical schema items) (sym c.from_vec-2.ensures) (subst (λ columns. ArePhysical columns items c.in_ok-items.items.items) is c.in_ok-items.ensures))
    (c.from_vec.ensures ∙ c.in_ok-places.ensures ∙ ap (λ columns. places_of columns items) is)) t

pub returns-clause-rows : goal.returns-clause-rows
returns-clause-rows c t =
    let schema = c.args.schema.now in
    let items = c.args.items.now in
    let is = c.as_slice-columns.ensures ∙ c.columns.ensures.value in
    let made = c.from_vec-2.result in
    let places = c.from_vec.result in
    mapped_rows (λ row. map (placed_cell row (map (λ p. physical_value p row) made)) places) (with_columns_row schema items)
    (placed_is schema items made places
    (subst (ArePhysical schema items) (sym c.from_vec-2.ensures) (subst (λ columns. ArePhysical columns items c.in_ok-items.items.items) is c.in_ok-items.ensures))
    (c.from_vec.ensures ∙ c.in_ok-places.ensures ∙ ap (λ columns. places_of columns items) is)) t

pub returns-clause-counts : goal.returns-clause-counts
returns-clause-counts c =
    let schema = c.args.schema.now in
    let items = c.args.items.now in
    let is = c.as_slice-columns.ensures ∙ c.columns.ensures.value in
    count_physical schema items c.from_vec-2.result
    (subst (ArePhysical schema items) (sym c.from_vec-2.ensures) (subst (λ columns. ArePhysical columns items c.in_ok-items.items.items) is c.in_ok-items.ensures))
