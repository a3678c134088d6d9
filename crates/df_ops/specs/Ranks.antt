-- Ranks, as `rank` with the methods "dense" and "min" of the Polars Python reference gives them: equal cells have one
-- rank, after which dense ranks leave no rank out, and others as many as there are further equal cells. That null has the
-- rank null is this project's own choice.
use Rattle.std.specs.Prelude.{◌≡◌, ◌≢◌, ◌<◌, ◌≤◌, IsTrue, ℕ, Bool, pos, ◌+◌, ◌&&◌, not, List, [], ◌∷◌, Option, Some, option_map, slice_get, filter, length, map, if◌then◌else◌}
use Rattle.std.specs.Ordering.{is_lt}
use Rattle.std.specs.declared.cmp.Ordering.TheVariants as ordering
use Rattle.df_value.specs.declared.cell.Cell.{Cell}
use Rattle.df_value.specs.declared.cell.Cell.TheVariants as cell
use Rattle.df_value.specs.CellEq.{cell_eq}
use Rattle.df_value.specs.CellOrder.{cell_cmp}
use Rattle.df_value.specs.Rows.{cell_at}
use Rattle.df_expr.specs.Value.{is_null}
use Rattle.df_ops.specs.Groups.{keys_of}
use Rattle.df_ops.specs.declared.ranks.RankKind.{RankKind}
use Rattle.df_ops.specs.declared.ranks.RankKind.TheVariants as rank

-- the distinct cells at an index, each as the key of a grouping by that column alone
abbrev pub distinct_at : Option ℕ → List (List Cell) → List (List Cell)
distinct_at index rows = keys_of (index ∷ []) rows

-- whether the cell of such a key is not null
abbrev pub is_non_null_key : List Cell → Bool
is_non_null_key key = not (is_null (cell_at (Some 0) key))

-- and smaller than c
abbrev pub is_smaller : Cell → List Cell → Bool
is_smaller c key = is_non_null_key key && is_lt (cell_cmp (cell_at (Some 0) key) c)

-- 1 plus the number of distinct smaller cells that are not null
abbrev pub rank_number : List (List Cell) → Cell → ℕ
rank_number distinct c = 1 + length (filter (is_smaller c) distinct)

-- the rank of a cell, null for null
abbrev pub dense_rank_of : List (List Cell) → Cell → Cell
dense_rank_of distinct c =
    if is_null c then cell.Null else cell.Int (pos (rank_number distinct c))

-- the ranks of the cells at an index
abbrev pub dense_rank : Option ℕ → List (List Cell) → List Cell
dense_rank index rows = map (λ r. dense_rank_of (distinct_at index rows) (cell_at index r)) rows

-- whether a cell is not null and smaller than c
abbrev pub is_below : Cell → Cell → Bool
is_below c d = not (is_null d) && is_lt (cell_cmp d c)

-- how many rows have such a cell at an index
abbrev pub count_below : Option ℕ → List (List Cell) → Cell → ℕ
count_below index rows c = length (filter (λ r. is_below c (cell_at index r)) rows)

-- 1 plus the number of smaller cells at an index that are not null; null for null
abbrev pub min_rank_of : Option ℕ → List (List Cell) → Cell → Cell
min_rank_of index rows c = if is_null c then cell.Null else cell.Int (pos (1 + count_below index rows c))

-- these ranks of the cells at an index
abbrev pub min_rank : Option ℕ → List (List Cell) → List Cell
min_rank index rows = map (λ r. min_rank_of index rows (cell_at index r)) rows

-- the ranks of this kind
abbrev pub ranks_of : RankKind → Option ℕ → List (List Cell) → List Cell
ranks_of rank.Dense index rows = dense_rank index rows
ranks_of rank.Min index rows = min_rank index rows

-- row i has this cell, and this rank
abbrev pub HasRank : Option ℕ → List (List Cell) → List Cell → ℕ → Cell → ℕ → Type 0
HasRank index rows ranks i c n = (option_map (cell_at index) (slice_get rows i) ≡ Some c) × (slice_get ranks i ≡ Some (cell.Int (pos n)))

-- a cell that is not null has a rank, of at least 1, and null has the rank null
abbrev pub EachIsRanked : Option ℕ → List (List Cell) → List Cell → Type 0
EachIsRanked index rows ranks =
    (i : ℕ) (c : Cell) → option_map (cell_at index) (slice_get rows i) ≡ Some c →
    (IsTrue (is_null c) → slice_get ranks i ≡ Some cell.Null)
    × (IsTrue (not (is_null c)) → (n : ℕ) × ((1 ≤ n) × (slice_get ranks i ≡ Some (cell.Int (pos n)))))

-- rows with the same cell have the same rank
abbrev pub RanksAgree : Option ℕ → List (List Cell) → List Cell → Type 0
RanksAgree index rows ranks =
    (i j : ℕ) (c : Cell) (n m : ℕ) → HasRank index rows ranks i c n → HasRank index rows ranks j c m → n ≡ m

-- a greater cell has a greater rank
abbrev pub RanksRise : Option ℕ → List (List Cell) → List Cell → Type 0
RanksRise index rows ranks =
    (i j : ℕ) (a b : Cell) (n m : ℕ) → HasRank index rows ranks i a n → HasRank index rows ranks j b m →
    cell_cmp a b ≡ ordering.Less → n < m

-- no rank is above the number of distinct cells that are not null
abbrev pub RanksWithin : Option ℕ → List (List Cell) → List Cell → Type 0
RanksWithin index rows ranks =
    (i : ℕ) (c : Cell) (n : ℕ) → HasRank index rows ranks i c n → n ≤ length (filter is_non_null_key (distinct_at index rows))

-- and the rank of the greatest cell is that number
abbrev pub GreatestCounts : Option ℕ → List (List Cell) → List Cell → Type 0
GreatestCounts index rows ranks =
    (i : ℕ) (a : Cell) (n : ℕ) → HasRank index rows ranks i a n →
    ((j : ℕ) (b : Cell) (m : ℕ) → HasRank index rows ranks j b m → cell_cmp a b ≢ ordering.Less) →
    n ≡ length (filter is_non_null_key (distinct_at index rows))

-- no rank is below the dense one
abbrev pub AtLeastDense : Option ℕ → List (List Cell) → List Cell → Type 0
AtLeastDense index rows ranks =
    (i : ℕ) (c : Cell) (n m : ℕ) → HasRank index rows (dense_rank index rows) i c n → HasRank index rows ranks i c m → n ≤ m

-- the least cell has the rank 1
abbrev pub LeastIsOne : Option ℕ → List (List Cell) → List Cell → Type 0
LeastIsOne index rows ranks =
    (i : ℕ) (a : Cell) (n : ℕ) → HasRank index rows ranks i a n →
    ((j : ℕ) (b : Cell) (m : ℕ) → HasRank index rows ranks j b m → cell_cmp b a ≢ ordering.Less) → n ≡ 1

-- how many rows have this cell
abbrev pub count_equal : Option ℕ → List (List Cell) → Cell → ℕ
count_equal index rows c = length (filter (λ r. cell_eq (cell_at index r) c) rows)

-- where no cell lies between two, the rank of the greater is that of the smaller plus the number of rows with the smaller
abbrev pub NextAddsEqual : Option ℕ → List (List Cell) → List Cell → Type 0
NextAddsEqual index rows ranks =
    (i j : ℕ) (a b : Cell) (n m : ℕ) → HasRank index rows ranks i a n → HasRank index rows ranks j b m → cell_cmp a b ≡ ordering.Less →
    ((k : ℕ) (c : Cell) (l : ℕ) → HasRank index rows ranks k c l → cell_cmp a c ≡ ordering.Less → cell_cmp c b ≢ ordering.Less) →
    m ≡ n + count_equal index rows a
