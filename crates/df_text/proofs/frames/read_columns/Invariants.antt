use Rattle.std.proofs.Common.{◌≡◌, map, drop}
use Rattle.toml.specs.View.{view}
use Rattle.df_text.specs.Reading.{read_after, read_each}
use Rattle.df_text.specs.Frames.{schema_column_of}
use Rattle.df_text.proofs.frames.read_columns.Given as goal

abbrev pub invariant-loop-value : goal.invariant-loop-value
invariant-loop-value l =
    read_each (schema_column_of l.location) (map view l.values) ≡ read_after (λ _ d. schema_column_of l.location d) l.columns.items (map view (drop l.value-index l.values))
