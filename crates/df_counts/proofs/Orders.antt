-- The order of cells, as maps from cells use it.
use Rattle.std.proofs.Common.{◌≡◌, sym}
use Rattle.std.specs.Ordering.{is_eq}
use Rattle.std.specs.FinMap.{IsAntisymmetric}
use Rattle.df_value.specs.declared.cell.Cell.{Cell}
use Rattle.df_value.specs.CellEq.{cell_eq}
use Rattle.df_value.specs.CellOrder.{cell_cmp}
use Rattle.df_value.specs.CellOrders.{exact}
use Rattle.df_value.specs.contracts.cell.CellOrd.TheImpl.Laws.{matches_eq-law}

pub cell_same : IsAntisymmetric cell_cmp
cell_same a b e = exact a b e

pub ties_where_equal : (a b : Cell) → is_eq (cell_cmp a b) ≡ cell_eq a b
ties_where_equal a b = sym (matches_eq-law a b)
