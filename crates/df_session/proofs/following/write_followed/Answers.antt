use Rattle.std.proofs.Common.{◌≡◌, ◌∙◌, arith, length, rules, subst, sym, true}
use Rattle.std.proofs.lemmas.List.{with_items_is}
use Rattle.df_session.specs.Following.{ArePagesBehind, AreWrittenIf, parts}
use Rattle.df_session.proofs.FollowFacts.{noted}
use Rattle.df_session.proofs.following.write_followed.Goals as goal

pub returns-clause-written : goal.returns-clause-written
returns-clause-written g c =
    let old = c.args.followed.now in
    let number = c.change_number-number.result in
    let pages = c.write_pages.new.pages in
    let long : length pages ≡ old.pages.len = omega (arith, c.write_pages.auto.pages, c.as_mut_slice-pages.ensures.len) in
    let must : c.must_write.result ≡ true = search rules in
    let written = subst (λ ps. ArePagesBehind (λ old new. g.S.ChangeStore.Tables old new c.args.definitions.now) g.S.ChangeStore.Names
    g.S.ChangeStore.Numbers g.F.WriteFiles.Writes c.args.title.now ps pages number c.args.store.now c.write_pages.new.store c.args.files.now
    c.write_pages.new.files (g.W.Write.contents c.args.output.now) (g.W.Write.contents c.write_pages.new.output))
    c.as_mut_slice-pages.ensures.value c.in_ok-write_pages.ensures in
    let left = noted pages c.note.new.self.pages.items number c.note.new.self.number c.args.moment.now
    c.note.new.self.at (c.note.ensures.pages ∙ with_items_is old.pages pages long) c.note.ensures.number c.note.ensures.at in (
      number,
      c.change_number-number.ensures,
      subst (λ b. AreWrittenIf (λ old new. g.S.ChangeStore.Tables old new c.args.definitions.now) g.S.ChangeStore.Names g.S.ChangeStore.Numbers
          g.F.WriteFiles.Writes c.args.title.now b (parts old.pages.items old.number old.at)
          (parts c.note.new.self.pages.items c.note.new.self.number c.note.new.self.at) c.args.moment.now number c.args.store.now
          c.write_pages.new.store c.args.files.now c.write_pages.new.files (g.W.Write.contents c.args.output.now)
          (g.W.Write.contents c.write_pages.new.output)) (sym must ∙ c.must_write.ensures) (pages, written, left),
    )
