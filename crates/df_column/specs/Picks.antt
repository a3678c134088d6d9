-- Rows picked from an old block and from new rows.
use Rattle.std.specs.Prelude.{ℕ, ◌+◌, ◌==◌, Bool, true, false, nat_lt, T, List, [], ◌∷◌, ◌++◌, map, slice_index_or, take, drop}
use Rattle.std.specs.List.{list_all}
use Rattle.df_value.specs.Cells.{fits_dtype}
use Rattle.df_value.specs.declared.cell.Cell.{Cell}
use Rattle.df_value.specs.declared.cell.Cell.TheVariants as cell
use Rattle.df_value.specs.declared.cell.CellType.{CellType}
use Rattle.df_column.specs.declared.picks.Origin.{Origin}
use Rattle.df_column.specs.declared.picks.Origin.TheVariants.{Old, New}
use Rattle.df_column.specs.declared.picks.Pick.{Pick}

-- the cell of a picked row in the column at this index, whose old cells are these
abbrev pub origin_cell : List Cell → ℕ → Origin → Cell
origin_cell cells at (Old i) = slice_index_or cells i cell.Null
origin_cell cells at (New row) = slice_index_or row.now at cell.Null

-- the cells of all picked rows in that column
abbrev pub picked_cells : List Cell → ℕ → List Pick → List Cell
picked_cells cells at picks = map (λ p. origin_cell cells at p.origin) picks

-- the items up to one index, others, and the items from another index on
abbrev pub spliced : {X : Type 0} → ℕ → ℕ → List X → List X → List X
spliced low high more xs = take low xs ++ (more ++ drop high xs)

-- whether an old row is one of the first n
abbrev pub is_within : ℕ → Origin → Bool
is_within n (Old i) = nat_lt i n
is_within n (New row) = true

-- whether a new row's cell at this index fits a column of this type
abbrev pub is_fit : CellType → ℕ → Origin → Bool
is_fit dtype at (Old i) = true
is_fit dtype at (New row) = fits_dtype dtype (slice_index_or row.now at cell.Null)

-- whether it is the old row at this index
abbrev pub is_old : ℕ → Origin → Bool
is_old n (Old i) = i == n
is_old n (New row) = false

-- these are old rows that follow one another from this one on
abbrev pub AreOld : ℕ → List Pick → Type 0
AreOld first [] = Unit {0}
AreOld first (p ∷ picks) = T (is_old first p.origin) × AreOld (first + 1) picks

-- all old rows are among the first n
abbrev pub AreWithin : ℕ → List Pick → Type 0
AreWithin n picks = T (list_all (λ p. is_within n p.origin) picks)

-- all new rows' cells at this index fit a column of this type
abbrev pub AreFit : CellType → ℕ → List Pick → Type 0
AreFit dtype at picks = T (list_all (λ p. is_fit dtype at p.origin) picks)
