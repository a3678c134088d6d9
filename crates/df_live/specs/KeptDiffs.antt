-- What is kept of a change of a table: where changes are kept, the one lean delta that leads from the table before to the
-- one afterwards, and else nothing.
use Rattle.std.specs.Prelude.{Bool, true, false, ⊤, Option, Some, None}
use Rattle.df_column.specs.Tables.{TaggedRows}
use Rattle.df_delta.specs.Deltas.{Changes}
use Rattle.df_delta.specs.Differences.{IsDiff}

abbrev pub IsKeptDiff : Bool → TaggedRows → TaggedRows → Option Changes → Type 0
IsKeptDiff true t u (Some d) = IsDiff t u d
IsKeptDiff true t u None = ⊥
IsKeptDiff false t u (Some d) = ⊥
IsKeptDiff false t u None = ⊤
