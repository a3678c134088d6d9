use Rattle.std.proofs.Common.{◌≡◌, ℕ, get_or, length}
use Rattle.df_jobs.proofs.expected.zeros.Given as goal

abbrev pub invariant-loop : goal.invariant-loop
invariant-loop l = (length l.zeros.items ≡ l.counter) × ((at : ℕ) → get_or l.zeros.items at 0 ≡ 0)
