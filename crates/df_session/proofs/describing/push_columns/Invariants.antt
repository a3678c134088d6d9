use Rattle.std.proofs.Common.{◌≡◌, ◌++◌, take}
use Rattle.df_session.specs.Described.{columns_text}
use Rattle.df_session.proofs.describing.push_columns.Given as goal

abbrev pub invariant-loop-column : goal.invariant-loop-column
invariant-loop-column l = l.text.items ≡ l.fn.text.items ++ columns_text l.before (take l.column-index l.column-items) l.behind
