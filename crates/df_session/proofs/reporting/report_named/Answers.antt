use Rattle.std.proofs.Common.{ap, inl, refl, rules, subst}
use Rattle.std.proofs.lemmas.Result.{err_from_is_err_and}
use Rattle.df_session.specs.Marks.{page_of_tables}
use Rattle.df_session.proofs.ReportFacts.{refused-memory, unwritten-behind}
use Rattle.df_session.proofs.reporting.report_named.Goals as goal

pub returns-in_err-told-clause-refused : goal.returns-in_err-told-clause-refused
returns-in_err-told-clause-refused g c =
    let p = err_from_is_err_and c.from_residual.result c.from_residual.ensures.1 in
    rw (p.1, p.2)
    (inl
    (refused-memory (λ old new. g.S.ChangeStore.Tables old new c.args.definitions.now) c.args.views.now c.args.store.now c.args.store.now _ refl refl, refl))

pub returns-in-Ok-clause-written : goal.returns-in-Ok-clause-written
returns-in-Ok-clause-written g c =
    let page = ap (page_of_tables c.args.title.now c.change_number-number.result c.args.reload c.args.before.now) c.as_slice.ensures in (
      c.change_number-number.result,
      c.change_number-number.ensures,
      c.in_ok-tables.ensures.made,
      subst (g.F.WriteFiles.Writes c.args.files.now c.write_tables.new.files c.args.path.now) page c.in-Ok.ensures.written,
      search rules,
    )

pub returns-in-Err-clause-refused : goal.returns-in-Err-clause-refused
returns-in-Err-clause-refused g c =
    unwritten-behind (λ old new. g.S.ChangeStore.Tables old new c.args.definitions.now) g.S.ChangeStore.Names g.S.ChangeStore.Numbers g.F.WriteFiles.Writes
    c.args.views.now c.args.store.now c.tables_of.new.store c.in_ok-tables.tables c.args.files.now c.write_tables.new.files c.in-Err.refusal
    c.in_ok-tables.ensures.made c.in-Err.ensures.refused
