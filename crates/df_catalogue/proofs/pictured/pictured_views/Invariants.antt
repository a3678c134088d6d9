use Rattle.std.proofs.Common.{◌≡◌, take, map}
use Rattle.df_catalogue.specs.LiveViews.{view_state}
use Rattle.df_state.specs.Pictures.{named_rows, named_rows_in}
use Rattle.df_catalogue.proofs.pictured.pictured_views.Given as goal

abbrev pub invariant-loop-view : goal.invariant-loop-view
invariant-loop-view l = map named_rows_in l.pictured.items ≡ map (λ v. named_rows (view_state v)) (take l.view-index l.views)
