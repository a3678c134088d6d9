-- What the loops over the cells of a group or of a column carry from one cell to the next.
use Rattle.std.specs.Prelude.{ℤ, List, [], ◌∷◌, Option, Some, None, cond, if◌then◌else◌}
use Rattle.df_value.specs.declared.cell.Cell.{Cell}
use Rattle.df_value.specs.declared.cell.Cell.TheVariants as cell
use Rattle.df_ops.specs.declared.min_max.MinMax.{MinMax}
use Rattle.df_expr.specs.Value.{is_null}
use Rattle.df_ops.specs.Aggregates.{sum_with, is_beyond, number_of}

-- a cell, unless it is null
abbrev pub non_null_of : Cell → Option Cell
non_null_of cell.Null = None
non_null_of c = Some c

-- of a cell so far and a further one, the one that lies beyond; the earlier one where neither does
abbrev pub min_or_max_with : MinMax → Option Cell → Option Cell → Option Cell
min_or_max_with e so_far None = so_far
min_or_max_with e None (Some c) = Some c
min_or_max_with e (Some l) (Some c) = Some (cond (is_beyond e c l) c l)

-- the one that lies beyond all, after these cells
abbrev pub min_or_max_after : MinMax → Option Cell → List Cell → Option Cell
min_or_max_after e so_far [] = so_far
min_or_max_after e so_far (c ∷ cs) = min_or_max_after e (min_or_max_with e so_far (non_null_of c)) cs

-- the sum that ends at a cell, null where that cell is null
abbrev pub cum_sum_cell : Cell → ℤ → Cell
cum_sum_cell c sum = if is_null c then cell.Null else cell.Wide sum

-- the cumulative sums of these cells, where those before them have this sum
abbrev pub cum_sum_after : ℤ → List Cell → List Cell
cum_sum_after sum [] = []
cum_sum_after sum (c ∷ cs) = cum_sum_cell c (sum_with sum (number_of c)) ∷ cum_sum_after (sum_with sum (number_of c)) cs
