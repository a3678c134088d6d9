use Rattle.std.proofs.Common.{◌≡◌, take}
use Rattle.df_group.specs.Projections.{indices_among}
use Rattle.df_group.proofs.projection.indices_among_columns.Given as goal

abbrev pub invariant-loop-column : goal.invariant-loop-column
invariant-loop-column l = l.indices.items ≡ indices_among (take l.column-index l.some) l.all
