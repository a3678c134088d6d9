use Rattle.std.proofs.Common.{inl, inr, refl, subst, sym}
use Rattle.std.specs.Prelude.{string_bytes}
use Rattle.df_session.specs.Following.{IsPageBehind}
use Rattle.df_session.proofs.following.write_page.Goals as goal

pub returns-in-Ok : goal.returns-in-Ok
returns-in-Ok g c =
    let written = c.in-Ok.written in
    subst (λ tables. IsPageBehind (λ old new. g.S.ChangeStore.Tables old new c.args.definitions.now) g.S.ChangeStore.Names g.S.ChangeStore.Numbers
    g.F.WriteFiles.Writes c.args.title.now c.args.reload c.args.page.now tables c.args.number c.args.store.now c.report_page.new.store c.args.files.now
    c.report_page.new.files (g.W.Write.contents c.args.output.now) (g.W.Write.contents c.args.output.now)) (sym c.tables_of.ensures)
    (inl (string_bytes written.told, c.in-Ok.ensures.written, refl))

pub returns-in-Ok-told : goal.returns-in-Ok-told
returns-in-Ok-told g c =
    let told = c.in-Ok-told.ensures in
    inr (c.in-Err.refusal, told.0, c.in-Err.ensures.refused, told.1, told.2, refl)
