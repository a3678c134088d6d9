use Rattle.std.proofs.Common.{◌≡◌, ◌<◌, ℕ}
use Rattle.std.specs.Prelude.{slice_get}
use Rattle.df_store.specs.Headings.{headings_of}
use Rattle.df_store.proofs.views.are_views.Given as goal

abbrev pub invariant-loop-at : goal.invariant-loop-at
invariant-loop-at g l = (k : ℕ) → k < l.at → slice_get (headings_of l.catalogue.state) k ≡ slice_get l.views k
