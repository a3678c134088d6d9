-- The test of two cells.
use Rattle.std.specs.Prelude.{◌≡◌, ◌↔◌, Bool, IsTrue}
use Rattle.df_value.specs.declared.cell.Cell.{Cell}
use Rattle.df_value.specs.contracts.cell.CellPartialEq.TheImpl.{ghosts}
use Rattle.df_value.specs.contracts.cell.CellExact.TheImpl.Laws.{decides-law}

-- whether two cells are the same (that it decides this is the lemma below)
abbrev pub cell_eq : Cell → Cell → Bool
cell_eq a b = ghosts.eq a b

pub cell_eq-Decides : (a b : Cell) → IsTrue (cell_eq a b) ↔ (a ≡ b)
cell_eq-Decides = decides-law
