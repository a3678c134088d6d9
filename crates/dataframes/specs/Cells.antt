-- Columns and rows that are lent.
use Rattle.std.specs.Prelude.{ℕ, List, map}
use denote.Ref.{Bor}
use Rattle.df_value.specs.CellRefs.{cell_of_ref}
use Rattle.df_value.specs.declared.cell.Cell.{Cell}
use Rattle.df_value.specs.declared.cell.CellType.{CellType}
use Rattle.df_value.specs.declared.cell_ref.CellRef.{CellRef}

-- columns whose names are lent
abbrev pub columns_lent : List (Bor (List ℕ) × CellType) → List (List ℕ × CellType)
columns_lent columns = map (λ c. (c.0.now, c.1)) columns

-- a row whose cells are lent
abbrev pub row_lent : List CellRef → List Cell
row_lent cells = map cell_of_ref cells
