use Rattle.std.proofs.Common.{◌≡◌, ◌≤◌, length, take}
use Rattle.df_value.specs.Limits as limits
use Rattle.df_jobs.specs.Joined.{FollowFrom, all_rows}
use Rattle.df_jobs.proofs.joining.rows_of_run.Given as goal

abbrev pub invariant-loop-outcome : goal.invariant-loop-outcome
invariant-loop-outcome l = record {
  follow : FollowFrom l.frame l.begin.schema l.begin.first (take l.outcome-index l.outcomes);
  count : l.rows ≡ length (all_rows (take l.outcome-index l.outcomes));
  few : l.rows ≤ limits.most_rows_of_frame;
}
