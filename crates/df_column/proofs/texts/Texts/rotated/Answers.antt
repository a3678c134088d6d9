use Rattle.std.proofs.Common.{◌-◌, ap, length, arith, refl}
use Rattle.std.proofs.lemmas.List.{length-map}
use Rattle.df_column.specs.Texts.{pool_text}
use Rattle.df_column.proofs.TextSplices.{rotated_places, rotated_texts}
use Rattle.df_column.proofs.texts.Texts.rotated.Goals as goal

pub invariant_of-result : goal.invariant_of-result
invariant_of-result c =
    let ts = c.self.inside.pool in
    let ps = c.self.inside.places in
    let l = length-map ps (pool_text ts) in
    let v = ap length c.self.view_is in
    rotated_places ts ps c.in_ok-places.places c.push_values.new.self c.push_values-2.new.self c.push_values-3.new.self c.args.low c.args.middle (c.len-3.result - c.args.middle) (c.args.middle - c.args.low)
    c.in_ok-places.ensures c.in_ok-push_values.ensures c.in_ok-push_values-2.ensures c.in_ok-push_values-3.ensures (ap (λ n. n - c.args.middle) c.len-3.ensures) refl c.requires.ordered (omega (arith, l, v, c.requires.in_range)) c.self.invariant

pub returns : goal.returns
returns c =
    let ts = c.self.inside.pool in
    let ps = c.self.inside.places in
    rotated_texts ts ps c.in_ok-places.places c.push_values.new.self c.push_values-2.new.self c.push_values-3.new.self c.args.low c.args.middle (c.len-3.result - c.args.middle) (c.args.middle - c.args.low)
    c.in_ok-places.ensures c.in_ok-push_values.ensures c.in_ok-push_values-2.ensures c.in_ok-push_values-3.ensures (ap (λ n. n - c.args.middle) c.len-3.ensures) refl c.requires.ordered c.args.self c.self.view_is
