use Rattle.std.proofs.lemmas.Result.{on_ok_weaker}
use Rattle.df_session.proofs.FollowFacts.{none-behind, one-behind}
use Rattle.df_session.proofs.following.+write_pages.Goals as goal

pub returns-in_default : goal.returns-in_default
returns-in_default g t c =
    none-behind (λ old new. g.S.ChangeStore.Tables old new c.args.definitions.now) g.S.ChangeStore.Names g.S.ChangeStore.Numbers g.F.WriteFiles.Writes
    c.args.title.now c.args.pages.now c.args.number c.args.store.now c.args.files.now (g.W.Write.contents c.args.output.now) c.in_default.ensures.cases

pub returns : goal.returns
returns g t c =
    on_ok_weaker c.write_pages.result (one-behind (λ old new. g.S.ChangeStore.Tables old new c.args.definitions.now) g.S.ChangeStore.Names
    g.S.ChangeStore.Numbers g.F.WriteFiles.Writes c.args.title.now c.args.pages.now _ _ _ _ c.args.number c.args.store.now _ _ c.args.files.now _ _
    (g.W.Write.contents c.args.output.now) _ _ c.in-Some.ensures.cases.0 c.in_ok-write_again.ensures) c.write_pages.ensures
