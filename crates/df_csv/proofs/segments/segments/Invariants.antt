use Rattle.std.proofs.Common.{◌≡◌, ◌+◌, ◌≤◌, false, length}
use Rattle.std.specs.Prelude.{max}
use Rattle.df_csv.proofs.OnePass.{quoted}
use Rattle.df_csv.proofs.SegmentFacts.{Cuts}
use Rattle.df_csv.proofs.segments.segments.Given as goal

abbrev pub invariant-loop : goal.invariant-loop
invariant-loop l =
    Cuts l.text l.segments.items l.rest × (quoted l.rest ≡ false) × (length l.segments.items + 1 ≤ l.counter) × (l.counter ≤ max 1 l.most)
