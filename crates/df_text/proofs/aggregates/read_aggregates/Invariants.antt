use Rattle.std.proofs.Common.{◌≡◌, map, drop}
use Rattle.toml.specs.View.{view}
use Rattle.df_text.specs.Reading.{read_after}
use Rattle.df_text.specs.AggregateItems.{aggregates_in, next_aggregate_of}
use Rattle.df_text.proofs.aggregates.read_aggregates.Given as goal

abbrev pub invariant-loop-value : goal.invariant-loop-value
invariant-loop-value l =
    aggregates_in l.location (map view l.values) ≡ read_after (next_aggregate_of l.location) l.aggregates.items (map view (drop l.value-index l.values))
