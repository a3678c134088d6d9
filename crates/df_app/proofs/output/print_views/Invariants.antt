use Rattle.std.proofs.Common.{◌≡◌, map, take}
use Rattle.df_app.specs.Loading.{printed_in}
use Rattle.df_app.proofs.output.print_views.Given as goal

abbrev pub invariant-loop-view : goal.invariant-loop-view
invariant-loop-view g l = l.tables.items ≡ map (printed_in l.catalogue.state) (take l.view-index l.views)
