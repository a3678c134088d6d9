use Rattle.std.proofs.Common.{◌∙◌, map, subst, sym}
use Rattle.df_expr.specs.Physical.{physical_value}
use Rattle.df_ops.specs.RowWise.{ArePhysical, select_row}
use Rattle.df_nodes.proofs.SameOutputs.{mapped_rows, count_physical}
use Rattle.df_nodes.proofs.map.LiveMap.select.Goals as goal

pub returns-clause-rows : goal.returns-clause-rows
returns-clause-rows c t =
    let schema = c.args.schema.now in
    let items = c.args.items.now in
    mapped_rows (λ row. map (λ p. physical_value p row) c.from_vec.result) (select_row schema items)
    (subst (ArePhysical schema items) (sym c.from_vec.ensures)
    (subst (λ columns. ArePhysical columns items c.in_ok-items.items.items) (c.as_slice.ensures ∙ c.columns.ensures.value) c.in_ok-items.ensures)) t

pub returns-clause-counts : goal.returns-clause-counts
returns-clause-counts c =
    let schema = c.args.schema.now in
    let items = c.args.items.now in
    count_physical schema items c.from_vec.result
    (subst (ArePhysical schema items) (sym c.from_vec.ensures)
    (subst (λ columns. ArePhysical columns items c.in_ok-items.items.items) (c.as_slice.ensures ∙ c.columns.ensures.value) c.in_ok-items.ensures))
