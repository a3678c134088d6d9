use Rattle.std.proofs.Common.{◌≡◌, ◌++◌, length, take, map}
use Rattle.std.specs.FinMap as finite
use Rattle.std.specs.Option.{option_copied}
use Rattle.std.specs.Prelude.{IfSome}
use Rattle.df_ops.specs.Tables.{aggregate_cell}
use Rattle.df_group.specs.GroupIndex.{IsRowBefore, totals_of}
use Rattle.df_group.proofs.grouping.Grouping.finished_row.Given as goal

abbrev pub invariant-loop-named : goal.invariant-loop-named
invariant-loop-named l =
    l.totals ≡ totals_of l.self (finite.values l.members.rows)
    → IfSome (option_copied l.before) (λ row. IsRowBefore l.self l.key row l.entries (finite.values l.members.rows))
    → l.cells.items ≡ l.key ++ map (λ a. aggregate_cell l.self.members.schema (finite.values l.members.rows) a.1) (take (length l.yielded) l.self.aggregates)
