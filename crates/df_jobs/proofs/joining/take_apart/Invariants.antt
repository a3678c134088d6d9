use Rattle.std.proofs.Common.{◌≡◌, map}
use Rattle.df_jobs.specs.Joined.{all_rows, part_of}
use Rattle.df_jobs.proofs.joining.take_apart.Given as goal

abbrev pub invariant-loop-outcome : goal.invariant-loop-outcome
invariant-loop-outcome l = record {
  rows : l.rows.items ≡ all_rows l.yielded;
  parts : l.parts.items ≡ map part_of l.yielded;
}
