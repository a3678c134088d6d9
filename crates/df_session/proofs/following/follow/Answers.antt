use Rattle.std.proofs.Common.{◌∙◌, [], ap, subst, sym, true}
use Rattle.std.specs.Prelude.{string_bytes}
use Rattle.df_session.specs.Following.{IsRefusalOfFollow, PageParts, begun, parts}
use Rattle.df_session.specs.Reports.{IsReport}
use Rattle.df_session.proofs.following.follow.Goals as goal

pub returns-in-Ok-clause-followed : goal.returns-in-Ok-clause-followed
returns-in-Ok-clause-followed g c =
    let old = c.args.followed.now in
    let number = c.change_number-number.result in
    let tables = c.in-Ok.written.tables in
    let page = subst (λ (p : PageParts). IsReport (λ old new. g.S.ChangeStore.Tables old new c.args.definitions.now) g.S.ChangeStore.Names g.S.ChangeStore.Numbers
    g.F.WriteFiles.Writes c.args.title.now true p.path p.views p.tables c.args.store.now c.write_first.new.store tables c.args.files.now c.write_first.new.files
    (string_bytes c.in-Ok.written.told)) c.in_ok-page.ensures c.in-Ok.ensures.written in (
      number,
      tables,
      c.change_number-number.ensures,
      subst (λ told. IsReport (λ old new. g.S.ChangeStore.Tables old new c.args.definitions.now) g.S.ChangeStore.Names g.S.ChangeStore.Numbers
          g.F.WriteFiles.Writes c.args.title.now true c.args.path c.args.views [] c.args.store.now c.write_first.new.store tables c.args.files.now
          c.write_first.new.files (string_bytes told)) (sym c.begin.ensures.told) page,
      c.begin.ensures.begun
          ∙ (ap (λ f. begun (record c.in_ok-page.page { tables = tables }) number c.args.now f) c.write_first.ensures.same
          ∙ ap (λ (p : PageParts). begun (record p { tables = tables }) number c.args.now (parts old.pages.items old.number old.at)) c.in_ok-page.ensures),
    )

pub returns-in-Err-clause-refused : goal.returns-in-Err-clause-refused
returns-in-Err-clause-refused g c =
    subst (λ (p : PageParts). IsRefusalOfFollow (λ old new. g.S.ChangeStore.Tables old new c.args.definitions.now) g.S.ChangeStore.Names g.S.ChangeStore.Numbers
    g.F.WriteFiles.Writes c.args.title.now p.views c.args.store.now c.write_first.new.store c.args.files.now c.write_first.new.files c.in-Err.refusal)
    c.in_ok-page.ensures c.in-Err.ensures.refused
