use Rattle.std.proofs.Common.{subst, sym}
use Rattle.df_session.specs.Reports.{AreTables}
use Rattle.df_session.proofs.ReportFacts.{has-only}
use Rattle.df_session.proofs.reporting.tables_of.Goals as goal

pub returns-in-Ok-clause-made : goal.returns-in-Ok-clause-made
returns-in-Ok-clause-made g c =
    subst (AreTables (λ old new. g.S.ChangeStore.Tables old new c.args.definitions.now) c.args.views.now c.args.store.now c.push_tables.new.store)
    (sym c.from_vec.ensures)
    (has-only (λ old new. g.S.ChangeStore.Tables old new c.args.definitions.now) c.args.views.now c.args.store.now c.push_tables.new.store
    c.new-tables.result.items c.push_tables.new.tables.items c.new-tables.ensures.items c.in-Ok.ensures.made)
