use Rattle.std.proofs.Common.{◌≡◌, List, take, map}
use Rattle.df_column.specs.Tables.{TaggedRows}
use Rattle.df_catalogue.specs.LiveViews.{AreStaged, planned_rows}
use Rattle.df_state.specs.Pictures.{named_rows_in}
use Rattle.df_catalogue.proofs.staged_pictures.staged_views.Given as goal

abbrev pub invariant-loop-at : goal.invariant-loop-at
invariant-loop-at l =
    (frames : List TaggedRows) → AreStaged l.fn.views l.fn.staged frames → map named_rows_in l.pictured.items ≡ map (planned_rows frames) (take l.at l.views)
