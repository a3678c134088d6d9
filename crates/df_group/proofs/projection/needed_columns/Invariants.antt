use Rattle.std.proofs.Common.{◌≡◌, filter, take}
use Rattle.df_group.specs.Projections.{is_needed}
use Rattle.df_group.proofs.projection.needed_columns.Given as goal

abbrev pub invariant-loop-column : goal.invariant-loop-column
invariant-loop-column l = l.needed.items ≡ filter (λ c. is_needed l.columns l.aggregates c.0) (take l.column-index l.columns)
