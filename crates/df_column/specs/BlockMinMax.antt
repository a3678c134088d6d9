-- What a block keeps of each of its columns: where a least and a greatest cell stand among those that are not null.
use Rattle.std.specs.Prelude.{◌≡◌, ℕ, ◌<◌, ◌≤◌, List, [], ◌∷◌, ◌++◌, Option, Some, None, IfSome, length, map, slice_index_or, take, drop}
use Rattle.df_value.specs.declared.cell.Cell.{Cell}
use Rattle.df_value.specs.declared.cell.Cell.TheVariants as cell
use Rattle.df_column.specs.Blocks.{IsBlock}
use Rattle.df_column.specs.Columns.{column_cells}
use Rattle.df_column.specs.MinMaxCells.{min_or_max_of}
use Rattle.df_column.specs.Picks.{spliced}
use Rattle.df_column.specs.declared.min_max_search.Search.{Search}
use Rattle.df_column.specs.declared.column.Column.{Column}
use Rattle.df_column.specs.declared.min_max.MinMax.{MinMax}
use Rattle.df_column.specs.declared.min_max.MinMax.TheVariants as min_max
use Rattle.df_column.specs.declared.min_max.MinMaxPlaces.{MinMaxPlaces}
use Rattle.df_column.specs.declared.min_max.Splice.{Splice}
use Rattle.df_column.specs.declared.tag.Tag.{Tag}

-- the cell at an index, if there is one
abbrev pub cell_there : List Cell → Option ℕ → Option Cell
cell_there cells None = None
cell_there cells (Some i) = Some (slice_index_or cells i cell.Null)

-- at this index stands the cell that no other lies beyond; there is no index where all cells are null
pub record IsMinOrMaxAt (e : MinMax) (cells : List Cell) (at : Option ℕ) : Type 0 where
  pub within : IfSome at (λ i. i < length cells)
  pub here : cell_there cells at ≡ min_or_max_of e cells

-- at this index stands the least or greatest of the cells up to one index and from another on
pub record IsMinOrMaxBeside (e : MinMax) (cells : List Cell) (low high : ℕ) (at : Option ℕ) : Type 0 where
  pub within : IfSome at (λ i. i < length cells)
  pub here : cell_there cells at ≡ min_or_max_of e (take low cells ++ drop high cells)

-- the range of the cells that are looked at, and an index where the least or greatest of all others stands
pub record IsSearch (e : MinMax) (cells : List Cell) (s : Search) : Type 0 where
  pub ordered : s.low ≤ s.high
  pub in_range : s.high ≤ length cells
  pub beside : IsMinOrMaxBeside e cells s.low s.high s.known

-- both ends of a column
pub record AreMinMaxOf (cells : List Cell) (x : MinMaxPlaces) : Type 0 where
  pub least : IsMinOrMaxAt min_max.Min cells x.least
  pub greatest : IsMinOrMaxAt min_max.Max cells x.greatest

-- those of each column
abbrev pub AreMinMax : List (List Cell) → List MinMaxPlaces → Type 0
AreMinMax [] [] = Unit {0}
AreMinMax [] (x ∷ xs) = ⊥
AreMinMax (c ∷ cs) [] = ⊥
AreMinMax (c ∷ cs) (x ∷ xs) = AreMinMaxOf c x × AreMinMax cs xs

-- the ends of no cells
abbrev pub no_min_max : MinMaxPlaces
no_min_max = record { least = None; greatest = None }

-- those of each of these columns; past the end, those of no cells
abbrev pub AreKnown : List (List Cell) → List MinMaxPlaces → Type 0
AreKnown columns known =
    (i : ℕ) → i < length columns → AreMinMaxOf (slice_index_or columns i []) (slice_index_or known i no_min_max)

-- these cells are a splice of old ones, of which it is known where the least and the greatest stand
pub record IsSplicedFrom (s : Splice) (cells : List Cell) (known : MinMaxPlaces) : Type 0 where
  pub old : List Cell
  pub more : List Cell
  pub is : cells ≡ spliced s.low s.high more old
  pub count : length more ≡ s.count
  pub ordered : s.low ≤ s.high
  pub in_range : s.high ≤ length old
  pub known_are : AreMinMaxOf old known

-- so with each column; past the end, the known ones are those of no cells
abbrev pub AreSplicedFrom : Splice → List (List Cell) → List MinMaxPlaces → Type 0
AreSplicedFrom s columns known =
    (i : ℕ) → i < length columns → IsSplicedFrom s (slice_index_or columns i []) (slice_index_or known i no_min_max)

-- these cells are such a splice, where one of these two is known
pub record IsKnownBefore (e : MinMax) (s : Splice) (cells : List Cell) (at : Option ℕ) : Type 0 where
  pub old : List Cell
  pub more : List Cell
  pub is : cells ≡ spliced s.low s.high more old
  pub count : length more ≡ s.count
  pub ordered : s.low ≤ s.high
  pub in_range : s.high ≤ length old
  pub known_is : IsMinOrMaxAt e old at

-- the fields of a block
pub record IsKeptBlock (tags : List Tag) (columns : List Column) (kept : List MinMaxPlaces) : Type 0 where
  pub block : IsBlock tags columns
  pub min_max : AreMinMax (map column_cells columns) kept
