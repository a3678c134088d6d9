use Rattle.std.proofs.Common.{◌≡◌, map, drop}
use Rattle.toml.specs.View.{view}
use Rattle.df_text.specs.Reading.{read_after, read_each}
use Rattle.df_text.specs.Tree.{text_in}
use Rattle.df_text.proofs.view_steps.read_names.Given as goal

abbrev pub invariant-loop-value : goal.invariant-loop-value
invariant-loop-value l =
    read_each (text_in l.location) (map view l.values) ≡ read_after (λ _ d. text_in l.location d) l.names.items (map view (drop l.value-index l.values))
