use Rattle.std.proofs.Common.{◌≡◌, ◌∙◌, ap, arith, flat_map, length, map-id, subst, sym}
use Rattle.std.proofs.lemmas.Iterator.Adapters.{YieldsList-from_vec}
use Rattle.std.proofs.lemmas.Iterator.Consumers.{YieldsList-end}
use Rattle.df_session.proofs.AreMadeFacts.{all-flat}
use Rattle.df_session.specs.Filling.{AreMade, piece_appends}
use Rattle.df_session.proofs.filling.enter_pieces.Goals as goal

pub loop-made-preserved : goal.loop-made-preserved
loop-made-preserved g c =
    all-flat g.S.ViewStore.Makes (piece_appends c.args.frame) c.args.store.now c.loop-made.store c.enter.new.store c.loop-made.yielded c.in-Some.made c.loop-made.invariant c.in_ok-enter.ensures

pub returns : goal.returns
returns g c =
    let items : c.into_iter-made-iterator.result.rest.items ≡ c.args.pieces = c.into_iter-made-iterator.ensures.into_iter_gives.0 ∙ c.into_vec-made-items.ensures in
    let count : c.into_iter-made-iterator.result.rest.len ≡ length c.args.pieces = omega (arith, ap length items, c.into_iter-made-iterator.result.rest.ok.0) in
    let all = YieldsList-end (YieldsList-from_vec {s = c.into_iter-made-iterator.result} c.args.pieces items count) c.loop-made.yielded c.loop-made.made-iterator c.loop-made.yielded_by c.next.result c.next.new.self c.in-None.is c.next.ensures.steps in
    subst (λ ps. AreMade g.S.ViewStore.Makes c.args.store.now c.loop-made.store (flat_map (piece_appends c.args.frame) ps)) (sym (map-id c.loop-made.yielded) ∙ all.0) c.loop-made.invariant
