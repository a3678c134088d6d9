-- An order of all cells: null first, then by type, and within a type as `order_of` has it. It is there so that each
-- list of cells has a least; cells of one type and not null compare in it as in the Polars Python reference.
use Rattle.std.specs.Prelude.{◌≡◌, Some}
use Rattle.std.specs.Cmp.{IsTotalOrder}
use Rattle.std.specs.declared.cmp.Ordering.{Ordering}
use Rattle.df_value.specs.declared.cell.Cell.{Cell}
use Rattle.df_value.specs.declared.cell.Cell.TheVariants as cell
use Rattle.df_value.specs.contracts.cell.CellOrd.TheImpl.{ghosts}
use Rattle.df_value.specs.contracts.cell.CellOrd.TheImpl.Laws.{total-law}
use Rattle.df_value.specs.Order.{order_of}

-- how two cells compare (the lemmas below say what is known of it)
abbrev pub cell_cmp : Cell → Cell → Ordering
cell_cmp a b = ghosts.cmp a b

pub cell_cmp_total : IsTotalOrder cell_cmp
cell_cmp_total = total-law

pub cell_cmp-order_of : (a b : Cell) (o : Ordering) → order_of a b ≡ Some o → cell_cmp a b ≡ o
cell_cmp-order_of (cell.Int a) (cell.Int b) o h = cc
cell_cmp-order_of (cell.Wide a) (cell.Wide b) o h = cc
cell_cmp-order_of (cell.Text a) (cell.Text b) o h = cc
cell_cmp-order_of (cell.Bool a) (cell.Bool b) o h = cc
cell_cmp-order_of _ _ o h = cc
