use Rattle.std.proofs.Common.{◌≡◌, ◌+◌, take, drop}
use Rattle.df_csv.proofs.TypedWalks.{after_typed}
use Rattle.df_csv.specs.Typed.{rows_typed}
use Rattle.df_csv.proofs.typed.type_rows.Given as goal

abbrev pub invariant-loop-i : goal.invariant-loop-i
invariant-loop-i l =
    rows_typed l.columns (l.first + 1) (take l.len (drop l.first l.records))
    ≡ after_typed l.rows.items (rows_typed l.columns (l.first + 1 + l.i) (drop l.i (take l.len (drop l.first l.records))))
