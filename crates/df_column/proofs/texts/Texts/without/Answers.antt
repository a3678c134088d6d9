use Rattle.std.proofs.Common.{◌-◌, ap, length, arith, subst, sym, ◌∙◌, map}
use Rattle.std.proofs.lemmas.List.{length-map}
use Rattle.df_column.specs.Texts.{ArePlaces, pool_text}
use Rattle.df_column.proofs.TextSplices.{kept_places, kept_texts}
use Rattle.df_column.proofs.texts.Texts.without.Goals as goal

pub invariant_of-result : goal.invariant_of-result
invariant_of-result c =
    let ts = c.self.inside.pool in
    let ps = c.self.inside.places in
    let l = length-map ps (pool_text ts) in
    let v = ap length c.self.view_is in
    let n = c.len.ensures in
    let k = c.len-texts.ensures in
    subst (λ ts. ArePlaces ts c.push_values-2.new.self) (sym c.in_ok-pool.ensures)
    (kept_places ts ps c.in_ok-places.places c.push_values.new.self c.push_values-2.new.self c.args.low c.args.high (c.len.result - c.args.high) c.in_ok-places.ensures c.in_ok-push_values.ensures c.in_ok-push_values-2.ensures
    (omega (arith, c.if-texts-low.false, n, k)) c.requires.ordered (omega (arith, l, v, c.requires.in_range)) (omega (arith, l, v, n)) c.self.invariant)

pub returns : goal.returns
returns c =
    let ts = c.self.inside.pool in
    let ps = c.self.inside.places in
    let l = length-map ps (pool_text ts) in
    let v = ap length c.self.view_is in
    let n = c.len.ensures in
    ap (λ ts. map (pool_text ts) c.push_values-2.new.self) c.in_ok-pool.ensures
    ∙ kept_texts ts ps c.in_ok-places.places c.push_values.new.self c.push_values-2.new.self c.args.low c.args.high (c.len.result - c.args.high) c.in_ok-places.ensures c.in_ok-push_values.ensures c.in_ok-push_values-2.ensures
    c.args.self.now c.self.view_is (omega (arith, l, v, n))
