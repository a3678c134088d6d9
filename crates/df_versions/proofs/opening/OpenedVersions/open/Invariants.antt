use Rattle.std.proofs.Common.{◌≡◌}
use Rattle.df_versions.proofs.opening.OpenedVersions.open.Given as goal

abbrev pub invariant-loop : goal.invariant-loop
invariant-loop g l = (l.opened.0 ≡ l.initial.opened.0) × (l.opened.1 ≡ l.initial.opened.1) × (l.opened.2 ≡ l.counter)
