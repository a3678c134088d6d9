use Rattle.std.proofs.Common.{◌≡◌, ◌+◌, ◌*◌, map, drop}
use Rattle.toml.specs.Data.{depth, items_depth, members_depth}
use Rattle.toml.specs.View.{items_of, table_view, view}
use Rattle.df_text.specs.Steps.{steps_after}
use Rattle.df_text.proofs.view_steps.+steps.Given as goal

abbrev pub decreases-apply_table : goal.decreases-apply_table
decreases-apply_table l = 8 * members_depth (table_view l.table.now) + 8

abbrev pub decreases-apply_steps : goal.decreases-apply_steps
decreases-apply_steps l = 8 * items_depth (items_of (map view l.steps.now)) + 7

abbrev pub decreases-apply_step : goal.decreases-apply_step
decreases-apply_step l = 8 * depth (view l.step.now) + 6

abbrev pub decreases-apply : goal.decreases-apply
decreases-apply l = 8 * items_depth (items_of (map view l.items.now)) + 5

abbrev pub decreases-join : goal.decreases-join
decreases-join l = 8 * items_depth (items_of (map view l.items.now)) + 4

abbrev pub decreases-read_right : goal.decreases-read_right
decreases-read_right l = 8 * depth (view l.right.now) + 3

abbrev pub invariant-apply_steps-loop-at : goal.invariant-apply_steps-loop-at
invariant-apply_steps-loop-at l =
    steps_after l.location 0 l.frames l.fn.input (items_of (map view l.steps)) ≡ steps_after l.location l.at l.frames l.plan (items_of (map view (drop l.at l.steps)))
