use Rattle.std.proofs.Common.{◌≡◌, ◌++◌, drop}
use Rattle.df_jobs.specs.Joined.{StandIn, outcomes_in}
use Rattle.df_jobs.proofs.joining.stored_in.Given as goal

abbrev pub invariant-loop-part : goal.invariant-loop-part
invariant-loop-part l = record {
  all : l.outcomes.items ++ outcomes_in l.run l.low (drop l.part-index l.parts) ≡ outcomes_in l.run 0 l.parts;
  stand : StandIn l.run l.low (drop l.part-index l.parts);
}
