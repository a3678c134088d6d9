use Rattle.std.proofs.Common.{◌≡◌, ◌+◌, ℕ, length, string_bytes}
use Rattle.df_export.specs.Numbered as numbered
use Rattle.df_export.specs.Numbered.{free_name}
use Rattle.df_export.proofs.number_column.number_name.Given as goal

abbrev pub invariant-loop : goal.invariant-loop
invariant-loop l = (left : ℕ) → l.counter + left ≡ length l.columns → free_name left l.columns (string_bytes l.name) ≡ numbered.number_name l.columns
