use Rattle.std.proofs.Common.{◌≡◌, ◌∙◌, ap, arith, flat_map, length, map-id, subst, sym}
use Rattle.std.proofs.lemmas.Iterator.Adapters.{YieldsList-from_vec}
use Rattle.std.proofs.lemmas.Iterator.Consumers.{YieldsList-end, YieldsList-from_enumerate}
use Rattle.df_session.proofs.AreMadeFacts.{all-flat}
use Rattle.df_session.specs.Filling.{AreMade, frame_appends}
use Rattle.df_session.proofs.filling.enter_frames.Goals as goal

pub loop-frame-preserved : goal.loop-frame-preserved
loop-frame-preserved g c =
    all-flat g.S.ViewStore.Makes frame_appends c.args.store.now c.loop-frame.store c.enter_pieces.new.store c.loop-frame.yielded (c.in-Some.frame, c.in-Some.of_frame) c.loop-frame.invariant c.in_ok-enter_pieces.ensures

pub returns : goal.returns
returns g c =
    let given = c.into_iter-frame-iterator.ensures.into_iter_gives in
    let source = c.enumerate-frame-items.ensures.source in
    let of_iter = c.into_iter.ensures.rest in
    let of_vec = c.into_vec.ensures in
    let counted = c.enumerate-frame-items.ensures.count in
    let items : c.into_iter-frame-iterator.result.iter.rest.items ≡ c.args.pieces = cc in
    let none : c.into_iter-frame-iterator.result.count ≡ 0 = cc in
    let count : c.into_iter-frame-iterator.result.iter.rest.len ≡ length c.args.pieces = omega (arith, ap length items, c.into_iter-frame-iterator.result.iter.rest.ok.0) in
    let each = YieldsList-from_enumerate {s = c.into_iter-frame-iterator.result} (YieldsList-from_vec {s = c.into_iter-frame-iterator.result.iter} c.args.pieces items count) none in
    let all = YieldsList-end each c.loop-frame.yielded c.loop-frame.frame-iterator c.loop-frame.yielded_by c.next.result c.next.new.self c.in-None.is c.next.ensures.steps in
    subst (λ fs. AreMade g.S.ViewStore.Makes c.args.store.now c.loop-frame.store (flat_map frame_appends fs)) (sym (map-id c.loop-frame.yielded) ∙ all.0) c.loop-frame.invariant
