use Rattle.std.proofs.Common.{subst}
use Rattle.df_session.proofs.ReportFacts.{all-refusal}
use Rattle.df_session.proofs.reporting.report_all.Goals as goal

pub returns-clause-refused : goal.returns-clause-refused
returns-clause-refused g c =
    let named = subst (g.S.ChangeStore.Names c.args.store.now c.view_names.new.self) c.in_ok-names.was c.view_names.ensures in
    all-refusal (λ old new. g.S.ChangeStore.Tables old new c.args.definitions.now) g.S.ChangeStore.Names g.S.ChangeStore.Numbers g.F.WriteFiles.Writes
    c.report_named-reported.result c.in_ok-names.names c.as_slice-views.result.now c.args.store.now c.view_names.new.self
    c.report_named-reported.new.store c.args.files.now c.report_named-reported.new.files named c.as_slice-views.ensures
    c.report_named-reported.ensures.refused
