use Rattle.std.proofs.Common.{◌≡◌, ◌++◌, length, ap, sym, ◌∙◌, arith, subst}
use Rattle.df_tree.specs.Leaves.{items, items_of_parts, leaves_of, rank_above, rank_of}
use Rattle.df_tree.specs.Level.{AreLevel, IsLevel}
use Rattle.df_tree.proofs.LeafLemmas.{items-one}
use Rattle.df_tree.proofs.JoinLemmas.{no_parts, put_as, some_parts}
use Rattle.df_tree.proofs.Outcomes.{if_ok_then}
use Rattle.df_tree.proofs.joining.join_level.Goals as goal

pub unreachable-requires : goal.unreachable-requires
unreachable-requires g c =
    let low : c.args.front.now.1 ≡ 0 = ap (λ p. p.1) (sym c.node.ensures.alike) ∙ ap (λ n. rank_of n) c.in-Items.is in
    let high : rank_above {I = g.row.I.Denot} c.in-Parts-node.field-0.items ≡ c.args.behind.now.1 = ap (λ n. rank_of n) (sym c.in-Parts-node.is) ∙ ap (λ p. p.1) c.node-in-Items.ensures.alike in
    let theirs : items {I = g.row.I.Denot} c.args.behind.now.0 ≡ items_of_parts {I = g.row.I.Denot} c.in-Parts-node.field-0.items = ap (λ p. p.0) (sym c.node-in-Items.ensures.alike) ∙ ap (λ n. items (leaves_of n)) c.in-Parts-node.is in
    let none = no_parts {I = g.row.I.Denot} c.in-Parts-node.field-0.items (omega (arith, low, high, c.requires.same)) in
    let many = ap length theirs in
    omega (arith, none, many, c.requires.more)

pub unreachable-requires-in-Items-node-2 : goal.unreachable-requires-in-Items-node-2
unreachable-requires-in-Items-node-2 g c =
    let low : c.args.behind.now.1 ≡ 0 = ap (λ p. p.1) (sym c.node-in-Parts.ensures.alike) ∙ ap (λ n. rank_of n) c.in-Items-node-2.is in
    let high : rank_above {I = g.row.I.Denot} c.in-Parts.parts.items ≡ c.args.front.now.1 = ap (λ n. rank_of n) (sym c.in-Parts.is) ∙ ap (λ p. p.1) c.node.ensures.alike in
    let mine : items {I = g.row.I.Denot} c.args.front.now.0 ≡ items_of_parts {I = g.row.I.Denot} c.in-Parts.parts.items = ap (λ p. p.0) (sym c.node.ensures.alike) ∙ ap (λ n. items (leaves_of n)) c.in-Parts.is in
    let none = no_parts {I = g.row.I.Denot} c.in-Parts.parts.items (omega (arith, low, high, c.requires.same)) in
    let many = ap length mine in
    omega (arith, none, many, c.requires.some)

pub join_items-requires : goal.join_items-requires
join_items-requires g c =
    let mine : items {I = g.row.I.Denot} c.args.front.now.0 ≡ c.deref.result.now = ap (λ p. p.0) (sym c.node.ensures.alike) ∙ ap (λ n. items (leaves_of n)) c.in-Items.is ∙ items-one {I = g.row.I.Denot} c.in-Items.leaf.items 0 ∙ sym c.deref.ensures.value in
    let many = ap length mine in
    omega (arith, many, c.requires.some)

pub returns-in-Items-node : goal.returns-in-Items-node
returns-in-Items-node g c =
    let mine : items {I = g.row.I.Denot} c.args.front.now.0 ≡ c.deref.result.now = ap (λ p. p.0) (sym c.node.ensures.alike) ∙ ap (λ n. items (leaves_of n)) c.in-Items.is ∙ items-one {I = g.row.I.Denot} c.in-Items.leaf.items 0 ∙ sym c.deref.ensures.value in
    let more : items {I = g.row.I.Denot} c.args.behind.now.0 ≡ c.deref-in-Items-node.result.now = ap (λ p. p.0) (sym c.node-in-Items.ensures.alike) ∙ ap (λ n. items (leaves_of n)) c.in-Items-node.is ∙ items-one {I = g.row.I.Denot} c.in-Items-node.more.items 0 ∙ sym c.deref-in-Items-node.ensures.value in
    let low : 0 ≡ c.args.front.now.1 = sym (ap (λ p. p.1) (sym c.node.ensures.alike) ∙ ap (λ n. rank_of n) c.in-Items.is) in
    if_ok_then c.join_items.result c.join_items.ensures (λ _ h. put_as {I = g.row.I.Denot} _ _ _ _ _ _ low (ap (λ l. l ++ c.deref-in-Items-node.result.now) (sym mine) ∙ ap (λ l. items {I = g.row.I.Denot} c.args.front.now.0 ++ l) (sym more)) h)

pub returns-in-Parts-node-2 : goal.returns-in-Parts-node-2
returns-in-Parts-node-2 g c =
    let mine : items {I = g.row.I.Denot} c.args.front.now.0 ≡ items_of_parts {I = g.row.I.Denot} c.deref-in-Parts-node-2.result.now = ap (λ p. p.0) (sym c.node.ensures.alike) ∙ ap (λ n. items (leaves_of n)) c.in-Parts.is ∙ ap (λ l. items_of_parts {I = g.row.I.Denot} l) (sym c.deref-in-Parts-node-2.ensures.value) in
    let more : items {I = g.row.I.Denot} c.args.behind.now.0 ≡ items_of_parts {I = g.row.I.Denot} c.deref-in-Parts-node-2-2.result.now = ap (λ p. p.0) (sym c.node-in-Parts.ensures.alike) ∙ ap (λ n. items (leaves_of n)) c.in-Parts-node-2.is ∙ ap (λ l. items_of_parts {I = g.row.I.Denot} l) (sym c.deref-in-Parts-node-2-2.ensures.value) in
    let rank : rank_above {I = g.row.I.Denot} c.deref-in-Parts-node-2.result.now ≡ c.args.front.now.1 = ap (λ l. rank_above {I = g.row.I.Denot} l) c.deref-in-Parts-node-2.ensures.value ∙ ap (λ n. rank_of n) (sym c.in-Parts.is) ∙ ap (λ p. p.1) c.node.ensures.alike in
    if_ok_then c.join_parts.result c.join_parts.ensures (λ _ h. put_as {I = g.row.I.Denot} _ _ _ _ _ _ rank (ap (λ l. l ++ items_of_parts {I = g.row.I.Denot} c.deref-in-Parts-node-2-2.result.now) (sym mine) ∙ ap (λ l. items {I = g.row.I.Denot} c.args.front.now.0 ++ l) (sym more)) h)

pub join_parts-requires-clause-level : goal.join_parts-requires-clause-level
join_parts-requires-clause-level g c = subst (λ l. AreLevel {I = g.row.I.Denot} l) (sym c.deref-in-Parts-node-2.ensures.value) (subst (IsLevel {I = g.row.I.Denot} {M = g.row.I-Measure.Denot}) c.in-Parts.is c.node.ensures.level)

pub join_parts-requires-clause-others : goal.join_parts-requires-clause-others
join_parts-requires-clause-others g c = subst (λ l. AreLevel {I = g.row.I.Denot} l) (sym c.deref-in-Parts-node-2-2.ensures.value) (subst (IsLevel {I = g.row.I.Denot} {M = g.row.I-Measure.Denot}) c.in-Parts-node-2.is c.node-in-Parts.ensures.level)

pub join_parts-requires-clause-some : goal.join_parts-requires-clause-some
join_parts-requires-clause-some g c =
    let mine : items {I = g.row.I.Denot} c.args.front.now.0 ≡ items_of_parts {I = g.row.I.Denot} c.deref-in-Parts-node-2.result.now = ap (λ p. p.0) (sym c.node.ensures.alike) ∙ ap (λ n. items (leaves_of n)) c.in-Parts.is ∙ ap (λ l. items_of_parts {I = g.row.I.Denot} l) (sym c.deref-in-Parts-node-2.ensures.value) in
    let many = ap length mine in
    some_parts {I = g.row.I.Denot} c.deref-in-Parts-node-2.result.now (omega (arith, many, c.requires.some))

pub join_parts-requires-clause-same : goal.join_parts-requires-clause-same
join_parts-requires-clause-same g c =
    let rank : rank_above {I = g.row.I.Denot} c.deref-in-Parts-node-2.result.now ≡ c.args.front.now.1 = ap (λ l. rank_above {I = g.row.I.Denot} l) c.deref-in-Parts-node-2.ensures.value ∙ ap (λ n. rank_of n) (sym c.in-Parts.is) ∙ ap (λ p. p.1) c.node.ensures.alike in
    let more : rank_above {I = g.row.I.Denot} c.deref-in-Parts-node-2-2.result.now ≡ c.args.behind.now.1 = ap (λ l. rank_above {I = g.row.I.Denot} l) c.deref-in-Parts-node-2-2.ensures.value ∙ ap (λ n. rank_of n) (sym c.in-Parts-node-2.is) ∙ ap (λ p. p.1) c.node-in-Parts.ensures.alike in
    omega (arith, rank, more, c.requires.same)

pub join_parts-requires-clause-few : goal.join_parts-requires-clause-few
join_parts-requires-clause-few g c =
    let rank : rank_above {I = g.row.I.Denot} c.deref-in-Parts-node-2.result.now ≡ c.args.front.now.1 = ap (λ l. rank_above {I = g.row.I.Denot} l) c.deref-in-Parts-node-2.ensures.value ∙ ap (λ n. rank_of n) (sym c.in-Parts.is) ∙ ap (λ p. p.1) c.node.ensures.alike in
    omega (arith, rank, c.levels.ensures.rank, c.levels.ensures.few)
