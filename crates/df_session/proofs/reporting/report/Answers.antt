use Rattle.std.proofs.Common.{[], false, subst, sym}
use Rattle.std.specs.Prelude.{string_bytes}
use Rattle.df_session.specs.Reports.{IsReport}
use Rattle.df_session.proofs.reporting.report.Goals as goal

pub returns-in-Ok-clause-written : goal.returns-in-Ok-clause-written
returns-in-Ok-clause-written g c = (
  c.in-Ok.written.tables,
  subst (λ told. IsReport (λ old new. g.S.ChangeStore.Tables old new c.args.definitions.now) g.S.ChangeStore.Names g.S.ChangeStore.Numbers g.F.WriteFiles.Writes
      c.args.title.now false c.args.path.now c.args.views.now [] c.args.store.now c.write_report.new.store c.in-Ok.written.tables c.args.files.now
      c.write_report.new.files (string_bytes told)) (sym c.told_of.ensures) c.in-Ok.ensures.written,
)
