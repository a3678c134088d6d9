use Rattle.std.proofs.Common.{◌≡◌, map}
use Rattle.df_column.specs.Tables.{entry_change}
use Rattle.df_delta.specs.Deltas.{coming}
use Rattle.df_delta.proofs.entries.whole_entries.Given as goal

abbrev pub invariant-loop-tag : goal.invariant-loop-tag
invariant-loop-tag l = map entry_change l.entries.items ≡ map coming l.yielded
