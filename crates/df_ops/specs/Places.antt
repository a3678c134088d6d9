-- Where the cells of a row come from, among whose cells others are put.
use Rattle.std.specs.Prelude.{ℕ, List, Some, map}
use Rattle.std.specs.List.{enumerate_from}
use Rattle.df_value.specs.declared.cell.Cell.{Cell}
use Rattle.df_value.specs.Rows.{cell_at}
use Rattle.df_ops.specs.NamedColumns.{with_columns}
use Rattle.df_ops.specs.declared.places.Origin.{Origin}
use Rattle.df_ops.specs.declared.places.Origin.TheVariants as origin
use Rattle.df_ops.specs.declared.places.Place.{Place}

-- each item's name, with the place of its own index
abbrev pub numbered : {T : Type 0} → Origin → List (List ℕ × T) → List (List ℕ × Place)
numbered o items = map (λ p. (p.1.0, record { origin = o; index = p.0 })) (enumerate_from 0 items)

-- the places of a row's own cells, among which those of the added cells are put
abbrev pub places_of : {A B : Type 0} → List (List ℕ × A) → List (List ℕ × B) → List Place
places_of own added = map (λ p. p.1) (with_columns (numbered origin.Row own) (numbered origin.Added added))

-- the cells that come from there
abbrev pub cells_from : Origin → List Cell → List Cell → List Cell
cells_from origin.Row row added = row
cells_from origin.Added row added = added

-- the cell of a place, null where there is none
abbrev pub placed_cell : List Cell → List Cell → Place → Cell
placed_cell row added place = cell_at (Some place.index) (cells_from place.origin row added)
