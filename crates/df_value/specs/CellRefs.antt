-- Cells that are lent: the cell that each of them is, and when two are the same.
use Rattle.std.specs.Prelude.{Bool}
use Rattle.std.specs.Cmp.{IsPartialEquivalence, on_equiv, partial_equiv_from_equiv}
use Rattle.df_value.specs.CellEq.{cell_eq}
use Rattle.df_value.specs.contracts.cell.CellEq.TheImpl.Laws.{laws-law}
use Rattle.df_value.specs.declared.cell.Cell.{Cell}
use Rattle.df_value.specs.declared.cell.Cell.TheVariants as cell
use Rattle.df_value.specs.declared.cell_ref.CellRef.{CellRef}
use Rattle.df_value.specs.declared.cell_ref.CellRef.TheVariants as lent

-- the cell that is lent
abbrev pub cell_of_ref : CellRef → Cell
cell_of_ref lent.Null = cell.Null
cell_of_ref (lent.Int n) = cell.Int n
cell_of_ref (lent.Wide n) = cell.Wide n
cell_of_ref (lent.Text t) = cell.Text t.now
cell_of_ref (lent.Bool b) = cell.Bool b
cell_of_ref (lent.Frac f) = cell.Frac f.now

-- whether two lend the same cell
abbrev pub ref_eq : CellRef → CellRef → Bool
ref_eq a b = cell_eq (cell_of_ref a) (cell_of_ref b)

pub ref_eq-partial : IsPartialEquivalence ref_eq
ref_eq-partial = partial_equiv_from_equiv (on_equiv cell_of_ref laws-law)
