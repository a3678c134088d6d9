-- The column that an aggregate takes, and the type that it gives. Which types it takes, that counts are Ints, a sum Wide
-- and a mean a Frac, is this project's own choice among those of the Polars Python reference.
use Rattle.std.specs.Prelude.{ℕ, List, Option, Some, None}
use Rattle.df_value.specs.declared.cell.CellType.{CellType}
use Rattle.df_value.specs.declared.cell.CellType.TheVariants as dtype
use Rattle.df_ops.specs.declared.agg.Agg.{Agg}
use Rattle.df_ops.specs.declared.agg.Agg.TheVariants as agg

-- the column that an aggregate takes; the length takes none
abbrev pub input_column : Agg → Option (List ℕ)
input_column agg.Len = None
input_column (agg.Count name) = Some name
input_column (agg.Sum name) = Some name
input_column (agg.Min name) = Some name
input_column (agg.Max name) = Some name
input_column (agg.First name) = Some name
input_column (agg.Last name) = Some name
input_column (agg.NUnique name) = Some name
input_column (agg.Mean name) = Some name

-- the type that it gives of a column of this type; none where it does not take that type
abbrev pub output_dtype : Agg → CellType → Option CellType
output_dtype agg.Len t = Some dtype.Int
output_dtype (agg.Count name) t = Some dtype.Int
output_dtype (agg.Sum name) dtype.Int = Some dtype.Wide
output_dtype (agg.Sum name) dtype.Bool = Some dtype.Wide
output_dtype (agg.Sum name) t = None
output_dtype (agg.Min name) dtype.Frac = None
output_dtype (agg.Min name) t = Some t
output_dtype (agg.Max name) dtype.Frac = None
output_dtype (agg.Max name) t = Some t
output_dtype (agg.First name) t = Some t
output_dtype (agg.Last name) t = Some t
output_dtype (agg.NUnique name) dtype.Frac = None
output_dtype (agg.NUnique name) t = Some dtype.Int
output_dtype (agg.Mean name) dtype.Int = Some dtype.Frac
output_dtype (agg.Mean name) t = None
