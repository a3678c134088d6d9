use Rattle.std.proofs.Common.{◌∙◌, add-one, arith, length, subst, sym, take}
use Rattle.std.proofs.lemmas.List.{length-take-le, take_all}
use Rattle.df_session.specs.Loading.{HasLoaded, pieces_of_load}
use Rattle.df_session.proofs.LoadFacts.{loaded-more, on-err, piece-count, take-more-at}
use Rattle.df_session.proofs.loading.append_pieces.Goals as goal

pub append_piece-requires-clause-within : goal.append_piece-requires-clause-within
append_piece-requires-clause-within g c =
    let count = piece-count c.args.frame.now.schema c.args.records.now in
    let end = c.count_pieces-n-end.ensures in
    let within = c.loop-n-test.true in
    omega (arith, within, end, count)

pub returns-in_err-append_piece-clause-some : goal.returns-in_err-append_piece-clause-some
returns-in_err-append_piece-clause-some g c =
    let pieces = pieces_of_load c.args.frame.now.schema c.args.records.now in
    let count = piece-count c.args.frame.now.schema c.args.records.now in
    let end = c.count_pieces-n-end.ensures in
    let within = c.loop-n-test.true in
    on-err c.from_residual.result (
      c.loop-n.n,
      c.loop-n.store,
      omega (arith, within, end, count),
      subst (HasLoaded g.S.ViewStore.Makes g.S.ViewStore.Refuses g.S.ViewStore.Keeps c.args.frame.now c.args.at c.args.store.now c.loop-n.store
          (take c.loop-n.n pieces)) (sym c.in_err-append_piece.ensures.same) c.loop-n.invariant.0,
      c.in_err-append_piece.ensures.kept,
    )

pub loop-n-preserved : goal.loop-n-preserved
loop-n-preserved g c =
    let pieces = pieces_of_load c.args.frame.now.schema c.args.records.now in
    let count = piece-count c.args.frame.now.schema c.args.records.now in
    let end = c.count_pieces-n-end.ensures in
    let within = c.loop-n-test.true in
    let tried = c.in_ok-append_piece.ensures.tried in
    let many = length-take-le c.loop-n.n pieces (omega (arith, within, end, count)) in
    rw (add-one, take-more-at pieces c.loop-n.n tried.0 tried.3) (
      loaded-more g.S.ViewStore.Makes g.S.ViewStore.Refuses g.S.ViewStore.Keeps c.args.frame.now c.args.at c.args.store.now c.loop-n.store
          c.append_piece.new.store (take c.loop-n.n pieces) c.loop-n.n tried.0 c.loop-n.loaded c.append_piece.new.loaded tried.1 tried.2
          c.loop-n.invariant.0 (sym many) tried.4 tried.5,
      tried.5.first ∙ c.loop-n.invariant.1,
    )

pub returns-clause-all : goal.returns-clause-all
returns-clause-all g c =
    let pieces = pieces_of_load c.args.frame.now.schema c.args.records.now in
    let count = piece-count c.args.frame.now.schema c.args.records.now in
    let end = c.count_pieces-n-end.ensures in
    let past = c.loop-n-test.false in
    subst (λ ps. HasLoaded g.S.ViewStore.Makes g.S.ViewStore.Refuses g.S.ViewStore.Keeps c.args.frame.now c.args.at c.args.store.now
    c.loop-n.store ps c.loop-n.loaded) (take_all c.loop-n.n pieces (omega (arith, past, end, count))) c.loop-n.invariant.0
