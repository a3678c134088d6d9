use Rattle.std.proofs.Common.{◌≡◌, [], drop, length}
use Rattle.df_document.specs.Opening.{results_after, plan_of}
use Rattle.df_document.proofs.opening.check_views.Given as goal

abbrev pub invariant-loop-view : goal.invariant-loop-view
invariant-loop-view l = record {
  so_far : results_after (plan_of l.schemas) [] l.views ≡ results_after (plan_of l.schemas) l.plans.items (drop l.view-index l.views);
  each : length l.plans.items ≡ l.view-index;
}
