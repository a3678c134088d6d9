use Rattle.std.proofs.Common.{◌≡◌, ◌≤◌, ◌++◌, drop, length, map, take}
use Rattle.std.specs.Prelude.{vec_capacity}
use Rattle.df_jobs.specs.Workers.{desks_of, outcomes_in}
use Rattle.df_jobs.proofs.pool.take_desks.Given as goal

abbrev pub invariant-loop-at : goal.invariant-loop-at
invariant-loop-at g l = record {
  count : length l.workers ≡ length l.fn.workers;
  rest : drop l.at l.workers ≡ drop l.at l.fn.workers;
  capacity : vec_capacity l.fn.gathered ≤ vec_capacity l.gathered;
  gathered : l.gathered.items ≡ l.fn.gathered.items ++ desks_of (take l.at l.fn.workers);
  outcomes : outcomes_in l.workers ≡ outcomes_in l.fn.workers;
  stopped : map (λ w. w.stopped) l.workers ≡ map (λ w. w.stopped) l.fn.workers;
}
