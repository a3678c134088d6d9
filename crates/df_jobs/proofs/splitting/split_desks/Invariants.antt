use Rattle.std.proofs.Common.{◌≡◌, ◌+◌, ◌≤◌, ◌++◌, length}
use Rattle.std.specs.Prelude.{vec_capacity}
use Rattle.df_state.specs.Desks.{HaveSameSums}
use Rattle.df_jobs.proofs.splitting.split_desks.Given as goal

abbrev pub invariant-loop-at : goal.invariant-loop-at
invariant-loop-at g l = record {
  count : length l.desks.items ≡ length l.fn.desks.items;
  most : length l.others.items ≤ length l.fn.others.items + l.at;
  capacity : vec_capacity l.others ≡ vec_capacity l.fn.others;
  sums : HaveSameSums (l.fn.desks.items ++ l.fn.others.items) (l.desks.items ++ l.others.items);
}
