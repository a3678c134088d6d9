use Rattle.std.proofs.Common.{take}
use Rattle.df_session.specs.Reports.{HasTables}
use Rattle.df_session.proofs.reporting.push_tables.Given as goal

abbrev pub invariant-loop-view : goal.invariant-loop-view
invariant-loop-view g l =
    HasTables (λ old new. g.S.ChangeStore.Tables old new l.definitions) (take l.view-index l.views) l.fn.store l.store l.fn.tables.items l.tables.items
