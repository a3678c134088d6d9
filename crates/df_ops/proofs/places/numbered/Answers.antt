use Rattle.std.proofs.Common.{◌<◌, ◌≤◌, ◌∙◌, length, map, sym, refl, arith, zero-add}
use Rattle.std.specs.List.{enumerate_from}
use Rattle.std.proofs.lemmas.List.FromFn.{length-enumerate_from, get_or-enumerate_from}
use Rattle.df_ops.proofs.Steps.{mapped_more, all_done, paired}
use Rattle.df_ops.proofs.places.numbered.Goals as goal

pub loop-index-preserved : goal.loop-index-preserved
loop-index-preserved g c =
    let items = c.args.items.now in
    let lt : c.loop-index.index < length (enumerate_from 0 items) = rw length-enumerate_from (omega arith) in
    mapped_more _ (enumerate_from 0 items) c.loop-index.index _ _ (c.loop-index.index, c.index-items-index.result) _ lt
    (sym (get_or-enumerate_from 0 items c.loop-index.index (c.loop-index.index, c.index-items-index.result) c.loop-index-test.true
    ∙ paired (zero-add c.loop-index.index) (sym c.index-items-index.is)))
    c.loop-index.invariant (paired c.in_ok-copy.ensures refl) c.in_ok-push.ensures.items

pub returns : goal.returns
returns g c =
    let items = c.args.items.now in
    let end : length (enumerate_from 0 items) ≤ c.loop-index.index = rw length-enumerate_from (omega arith) in
    all_done (map (λ p. (p.1.0, record { origin = c.args.origin; index = p.0 }))) (enumerate_from 0 items) _ _ _ end c.loop-index.invariant refl
