use Rattle.std.proofs.Common.{◌≡◌, ◌<◌, length, ap, sym, ◌∙◌, refl, arith, subst, rules}
use Rattle.std.specs.Prelude.{slice_get, List}
use Rattle.std.proofs.lemmas.Option.{slice_get_read}
use Rattle.df_tree.specs.Leaves.{leaves_of, leaves_of_parts, items, rank_above, rank_of}
use Rattle.df_tree.specs.Spots.{IsSpot}
use Rattle.df_tree.proofs.LeafLemmas.{items-one}
use Rattle.df_tree.proofs.SpotLemmas.{got, lower, within}
use Rattle.df_tree.proofs.seq.Seq.+get.Goals as goal

pub returns-in-Items : goal.returns-in-Items
returns-in-Items g t c =
    let xs : List g.row.I.Denot = c.in-Items.items.items in
    let parts : items {I = g.row.I.Denot} c.args.self.now.0 ≡ xs = ap (λ p. p.0) (sym c.node.ensures.alike) ∙ ap (λ n. items (leaves_of n)) c.in-Items.is ∙ items-one {I = g.row.I.Denot} xs 0 in
    let many : length (items {I = g.row.I.Denot} c.args.self.now.0) ≡ length xs = ap length parts in
    let near : c.args.index < length xs = omega (arith, many, c.requires) in
    ap (λ l. slice_get l c.args.index) parts ∙ slice_get_read xs (length xs) c.args.index c.index.result.now refl near c.index.ensures

pub returns-in-Parts : goal.returns-in-Parts
returns-in-Parts g t c =
    let parts : items {I = g.row.I.Denot} c.args.self.now.0 ≡ items {I = g.row.I.Denot} (leaves_of_parts {I = g.row.I.Denot} c.in-Parts.parts.items) = ap (λ p. p.0) (sym c.node.ensures.alike) ∙ ap (λ n. items (leaves_of n)) c.in-Parts.is in
    let spot : IsSpot {I = g.row.I.Denot} c.in-Parts.parts.items c.args.index c.spot_at-spot.result.at c.spot_at-spot.result.rest
    = subst (λ ks. IsSpot {I = g.row.I.Denot} ks c.args.index c.spot_at-spot.result.at c.spot_at-spot.result.rest) c.deref.ensures.value c.spot_at-spot.ensures in
    ap (λ l. slice_get l c.args.index) parts
    ∙ got {I = g.row.I.Denot} _ _ _ _ spot _ _ c.index-in-Parts.ensures c.get.ensures

pub index-requires : goal.index-requires
index-requires g t c =
    let xs : List g.row.I.Denot = c.in-Items.items.items in
    let parts : items {I = g.row.I.Denot} c.args.self.now.0 ≡ xs = ap (λ p. p.0) (sym c.node.ensures.alike) ∙ ap (λ n. items (leaves_of n)) c.in-Items.is ∙ items-one {I = g.row.I.Denot} xs 0 in
    let many : length (items {I = g.row.I.Denot} c.args.self.now.0) ≡ length xs = ap length parts in
    omega (arith, many, c.requires, c.in-Items.items.ok)

pub spot_at-spot-requires : goal.spot_at-spot-requires
spot_at-spot-requires g t c =
    let parts : items {I = g.row.I.Denot} c.args.self.now.0 ≡ items {I = g.row.I.Denot} (leaves_of_parts {I = g.row.I.Denot} c.in-Parts.parts.items) = ap (λ p. p.0) (sym c.node.ensures.alike) ∙ ap (λ n. items (leaves_of n)) c.in-Parts.is in
    let many = ap length parts in
    let same = ap (λ ks. length (items {I = g.row.I.Denot} (leaves_of_parts {I = g.row.I.Denot} ks))) c.deref.ensures.value in
    omega (arith, many, same, c.requires)

pub get-requires : goal.get-requires
get-requires g t c κs inside =
    let spot : IsSpot {I = g.row.I.Denot} c.in-Parts.parts.items c.args.index c.spot_at-spot.result.at c.spot_at-spot.result.rest
    = subst (λ ks. IsSpot {I = g.row.I.Denot} ks c.args.index c.spot_at-spot.result.at c.spot_at-spot.result.rest) c.deref.ensures.value c.spot_at-spot.ensures in
    let own : rank_above {I = g.row.I.Denot} c.in-Parts.parts.items ≡ c.args.self.now.1 = ap (λ n. rank_of n) (sym c.in-Parts.is) ∙ ap (λ p. p.1) c.node.ensures.alike in
    let below = lower {I = g.row.I.Denot} _ _ _ _ spot _ c.index-in-Parts.ensures in
    (omega (arith, below, own, c.decreases), (search rules, (search rules, within {I = g.row.I.Denot} _ _ _ _ spot _ c.index-in-Parts.ensures)))
