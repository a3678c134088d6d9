use Rattle.std.proofs.Common.{◌≡◌, ◌++◌, drop}
use Rattle.df_app.specs.Loading.{headings_in}
use Rattle.df_app.proofs.loading.headings.Given as goal

abbrev pub invariant-loop-i : goal.invariant-loop-i
invariant-loop-i l = headings_in l.views l.plans ≡ l.out.items ++ headings_in (drop l.i l.views) (drop l.i l.plans)
