use Rattle.std.proofs.Common.{◌≡◌, map, drop}
use Rattle.toml.specs.View.{view}
use Rattle.df_text.specs.Reading.{read_after}
use Rattle.df_text.specs.RowWiseSteps.{items_in, next_item_of}
use Rattle.df_text.proofs.row_wise_steps.read_items.Given as goal

abbrev pub invariant-loop-value : goal.invariant-loop-value
invariant-loop-value l =
    items_in l.location (map view l.values) ≡ read_after (next_item_of l.location) l.items.items (map view (drop l.value-index l.values))
