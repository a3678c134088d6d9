use Rattle.std.proofs.Common.{subst, sym}
use Rattle.df_session.specs.Loading.{IsLoaded, pieces_of_load}
use Rattle.df_session.proofs.LoadFacts.{loaded-or-some}
use Rattle.df_session.proofs.loading.append_records.Goals as goal

pub returns-clause-loaded : goal.returns-clause-loaded
returns-clause-loaded g c =
    let pieces = pieces_of_load c.args.frame.now.schema c.args.records.now in
    let tried = c.append_pieces-tried in
    subst (λ l. IsLoaded g.S.ViewStore.Makes g.S.ViewStore.Refuses g.S.ViewStore.Keeps c.args.frame.now c.args.at c.args.store.now
    tried.new.store pieces l l.is_cut) (sym c.end.ensures)
    (loaded-or-some g.S.ViewStore.Makes g.S.ViewStore.Refuses g.S.ViewStore.Keeps c.args.frame.now c.args.at c.args.store.now
    tried.new.store pieces tried.new.loaded tried.result c.is_err.result c.is_err.ensures.value tried.ensures.all tried.ensures.some)
