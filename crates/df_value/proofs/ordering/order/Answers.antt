use Rattle.std.proofs.Common.{◌∙◌, sym}
use Rattle.df_value.specs.CellOrders.{equal_where_same}
use Rattle.df_value.specs.CellOrder.{cell_cmp-order_of}
use Rattle.df_value.proofs.ordering.order.Goals as goal

pub returns-clause-same : goal.returns-clause-same
returns-clause-same c = equal_where_same c.args.a.now c.args.b.now c.unwrap.result (sym c.unwrap.ensures ∙ c.compare.ensures)

pub returns-clause-agrees : goal.returns-clause-agrees
returns-clause-agrees c = cell_cmp-order_of c.args.a.now c.args.b.now c.unwrap.result (sym (sym c.unwrap.ensures ∙ c.compare.ensures))
