use Rattle.std.proofs.Common.{rules, ◌≤◌, [], length-drop, ◌≡◌, ◌+◌, ◌-◌, ◌++◌, ℕ, length, take, drop, map, max, ap, sym, ◌∙◌, arith, subst}
use Rattle.df_tree.specs.Leaves.{alike, items, items_of_parts, leaves_of, rank_above, rank_of}
use Rattle.df_tree.specs.Level.{AreLevel, IsLevel}
use Rattle.df_tree.proofs.JoinLemmas.{joined_first, joined_last, last_parts, part_holds, put_as}
use Rattle.df_tree.specs.Puts.{ArePut}
use Rattle.df_tree.proofs.LeafLemmas.{take_past}
use Rattle.df_tree.proofs.Outcomes.{if_ok_then}
use Rattle.df_tree.proofs.joining.+join.Goals as goal

pub join_last-join-requires : goal.join_last-join-requires
join_last-join-requires g t c κs inside =
    let level : AreLevel {I = g.row.I.Denot} c.in-Parts.parts.items = subst (IsLevel {I = g.row.I.Denot} {M = g.row.I-Measure.Denot}) c.in-Parts.is c.node.ensures.level in
    let own : rank_above {I = g.row.I.Denot} c.in-Parts.parts.items ≡ c.args.front.now.1 = ap (λ n. rank_of n) (sym c.in-Parts.is) ∙ ap (λ p. p.1) c.node.ensures.alike in
    let some = last_parts {I = g.row.I.Denot} c.in-Parts.parts.items (omega (arith, own, c.requires.lower)) in
    let below = part_holds {I = g.row.I.Denot} c.in-Parts.parts.items (c.len-at.result - 1) c.index.result.now level (omega (arith, some, c.len-at.ensures, c.in-Parts.parts.ok)) c.index.ensures in
    (omega (arith, below.1, own, c.decreases), (search rules, (search rules, (below.0, c.requires.some))))

pub join_first-join-requires : goal.join_first-join-requires
join_first-join-requires g t c κs inside =
    let level : AreLevel {I = g.row.I.Denot} c.in-Parts.parts.items = subst (IsLevel {I = g.row.I.Denot} {M = g.row.I-Measure.Denot}) c.in-Parts.is c.node.ensures.level in
    let own : rank_above {I = g.row.I.Denot} c.in-Parts.parts.items ≡ c.args.behind.now.1 = ap (λ n. rank_of n) (sym c.in-Parts.is) ∙ ap (λ p. p.1) c.node.ensures.alike in
    let some = last_parts {I = g.row.I.Denot} c.in-Parts.parts.items (omega (arith, own, c.requires.lower)) in
    let below = part_holds {I = g.row.I.Denot} c.in-Parts.parts.items 0 c.index.result.now level some c.index.ensures in
    (omega (arith, below.1, own, c.decreases), (search rules, (search rules, (c.requires.some, below.0))))

pub join_first-push_parts-requires : goal.join_first-push_parts-requires
join_first-push_parts-requires g t c =
    let level : AreLevel {I = g.row.I.Denot} c.in-Parts.parts.items = subst (IsLevel {I = g.row.I.Denot} {M = g.row.I-Measure.Denot}) c.in-Parts.is c.node.ensures.level in
    let own : rank_above {I = g.row.I.Denot} c.in-Parts.parts.items ≡ c.args.behind.now.1 = ap (λ n. rank_of n) (sym c.in-Parts.is) ∙ ap (λ p. p.1) c.node.ensures.alike in
    let some = last_parts {I = g.row.I.Denot} c.in-Parts.parts.items (omega (arith, own, c.requires.lower)) in
    let many : length (drop 1 c.deref.result.now) ≤ length c.deref.result.now - 1 = let n = length-drop 1 c.deref.result.now in omega (arith, n) in
    let rest : map (alike {I = g.row.I.Denot}) c.in_ok-rest.rest.items ≡ map (alike {I = g.row.I.Denot}) (drop 1 c.in-Parts.parts.items) = c.in_ok-rest.ensures ∙ ap (map (alike {I = g.row.I.Denot})) (take_past _ _ many) ∙ ap (λ ks. map (alike {I = g.row.I.Denot}) (drop 1 ks)) c.deref.ensures.value in
    let put : ArePut {I = g.row.I.Denot} (max c.args.front.now.1 c.index.result.now.1) (items {I = g.row.I.Denot} c.args.front.now.0 ++ items {I = g.row.I.Denot} c.index.result.now.0) [] c.join.new.to.items
    = subst (λ o. ArePut {I = g.row.I.Denot} (max c.args.front.now.1 c.index.result.now.1) (items {I = g.row.I.Denot} c.args.front.now.0 ++ items {I = g.row.I.Denot} c.index.result.now.0) o c.join.new.to.items) c.new-made.ensures.items c.in_ok-join.ensures in
    let whole = joined_first {I = g.row.I.Denot} c.in-Parts.parts.items c.in_ok-rest.rest.items c.join.new.to.items c.append.new.self.items c.index.result.now c.args.front.now.1 (items {I = g.row.I.Denot} c.args.front.now.0) level some c.index.ensures (omega (arith, own, c.requires.lower)) rest put c.in_ok-append.ensures.items in
    record { level = whole.level; some = whole.some; few = omega (arith, whole.rank_is, own, c.levels.ensures.rank, c.levels.ensures.few) }

pub join_first-returns : goal.join_first-returns
join_first-returns g t c =
    let level : AreLevel {I = g.row.I.Denot} c.in-Parts.parts.items = subst (IsLevel {I = g.row.I.Denot} {M = g.row.I-Measure.Denot}) c.in-Parts.is c.node.ensures.level in
    let own : rank_above {I = g.row.I.Denot} c.in-Parts.parts.items ≡ c.args.behind.now.1 = ap (λ n. rank_of n) (sym c.in-Parts.is) ∙ ap (λ p. p.1) c.node.ensures.alike in
    let some = last_parts {I = g.row.I.Denot} c.in-Parts.parts.items (omega (arith, own, c.requires.lower)) in
    let many : length (drop 1 c.deref.result.now) ≤ length c.deref.result.now - 1 = let n = length-drop 1 c.deref.result.now in omega (arith, n) in
    let rest : map (alike {I = g.row.I.Denot}) c.in_ok-rest.rest.items ≡ map (alike {I = g.row.I.Denot}) (drop 1 c.in-Parts.parts.items) = c.in_ok-rest.ensures ∙ ap (map (alike {I = g.row.I.Denot})) (take_past _ _ many) ∙ ap (λ ks. map (alike {I = g.row.I.Denot}) (drop 1 ks)) c.deref.ensures.value in
    let put : ArePut {I = g.row.I.Denot} (max c.args.front.now.1 c.index.result.now.1) (items {I = g.row.I.Denot} c.args.front.now.0 ++ items {I = g.row.I.Denot} c.index.result.now.0) [] c.join.new.to.items
    = subst (λ o. ArePut {I = g.row.I.Denot} (max c.args.front.now.1 c.index.result.now.1) (items {I = g.row.I.Denot} c.args.front.now.0 ++ items {I = g.row.I.Denot} c.index.result.now.0) o c.join.new.to.items) c.new-made.ensures.items c.in_ok-join.ensures in
    let whole = joined_first {I = g.row.I.Denot} c.in-Parts.parts.items c.in_ok-rest.rest.items c.join.new.to.items c.append.new.self.items c.index.result.now c.args.front.now.1 (items {I = g.row.I.Denot} c.args.front.now.0) level some c.index.ensures (omega (arith, own, c.requires.lower)) rest put c.in_ok-append.ensures.items in
    let mine : items {I = g.row.I.Denot} c.args.behind.now.0 ≡ items_of_parts {I = g.row.I.Denot} c.in-Parts.parts.items = ap (λ p. p.0) (sym c.node.ensures.alike) ∙ ap (λ n. items (leaves_of n)) c.in-Parts.is in
    if_ok_then c.push_parts.result c.push_parts.ensures (λ _ h. put_as {I = g.row.I.Denot} _ _ _ _ _ _ (whole.rank_is ∙ own) (whole.holds ∙ ap (λ l. items {I = g.row.I.Denot} c.args.front.now.0 ++ l) (sym mine)) h)

pub join_last-push_parts-requires : goal.join_last-push_parts-requires
join_last-push_parts-requires g t c =
    let level : AreLevel {I = g.row.I.Denot} c.in-Parts.parts.items = subst (IsLevel {I = g.row.I.Denot} {M = g.row.I-Measure.Denot}) c.in-Parts.is c.node.ensures.level in
    let own : rank_above {I = g.row.I.Denot} c.in-Parts.parts.items ≡ c.args.front.now.1 = ap (λ n. rank_of n) (sym c.in-Parts.is) ∙ ap (λ p. p.1) c.node.ensures.alike in
    let some = last_parts {I = g.row.I.Denot} c.in-Parts.parts.items (omega (arith, own, c.requires.lower)) in
    let at : ℕ = c.len-at.result - 1 in
    let all : length c.in-Parts.parts.items ≡ at + 1 = omega (arith, some, c.len-at.ensures, c.in-Parts.parts.ok) in
    let front : map (alike {I = g.row.I.Denot}) c.in_ok-made.made.items ≡ map (alike {I = g.row.I.Denot}) (take at c.in-Parts.parts.items) = c.in_ok-made.ensures ∙ ap (λ ks. map (alike {I = g.row.I.Denot}) (take at ks)) c.deref.ensures.value in
    let whole = joined_last {I = g.row.I.Denot} c.in-Parts.parts.items c.in_ok-made.made.items c.join.new.to.items at c.index.result.now c.args.behind.now.1 (items {I = g.row.I.Denot} c.args.behind.now.0) level all c.index.ensures (omega (arith, own, c.requires.lower)) front c.in_ok-join.ensures in
    record { level = whole.level; some = whole.some; few = omega (arith, whole.rank_is, own, c.levels-at.ensures.rank, c.levels-at.ensures.few) }

pub join_last-returns : goal.join_last-returns
join_last-returns g t c =
    let level : AreLevel {I = g.row.I.Denot} c.in-Parts.parts.items = subst (IsLevel {I = g.row.I.Denot} {M = g.row.I-Measure.Denot}) c.in-Parts.is c.node.ensures.level in
    let own : rank_above {I = g.row.I.Denot} c.in-Parts.parts.items ≡ c.args.front.now.1 = ap (λ n. rank_of n) (sym c.in-Parts.is) ∙ ap (λ p. p.1) c.node.ensures.alike in
    let some = last_parts {I = g.row.I.Denot} c.in-Parts.parts.items (omega (arith, own, c.requires.lower)) in
    let at : ℕ = c.len-at.result - 1 in
    let all : length c.in-Parts.parts.items ≡ at + 1 = omega (arith, some, c.len-at.ensures, c.in-Parts.parts.ok) in
    let front : map (alike {I = g.row.I.Denot}) c.in_ok-made.made.items ≡ map (alike {I = g.row.I.Denot}) (take at c.in-Parts.parts.items) = c.in_ok-made.ensures ∙ ap (λ ks. map (alike {I = g.row.I.Denot}) (take at ks)) c.deref.ensures.value in
    let whole = joined_last {I = g.row.I.Denot} c.in-Parts.parts.items c.in_ok-made.made.items c.join.new.to.items at c.index.result.now c.args.behind.now.1 (items {I = g.row.I.Denot} c.args.behind.now.0) level all c.index.ensures (omega (arith, own, c.requires.lower)) front c.in_ok-join.ensures in
    let mine : items {I = g.row.I.Denot} c.args.front.now.0 ≡ items_of_parts {I = g.row.I.Denot} c.in-Parts.parts.items = ap (λ p. p.0) (sym c.node.ensures.alike) ∙ ap (λ n. items (leaves_of n)) c.in-Parts.is in
    if_ok_then c.push_parts.result c.push_parts.ensures (λ _ h. put_as {I = g.row.I.Denot} _ _ _ _ _ _ (whole.rank_is ∙ own) (whole.holds ∙ ap (λ l. l ++ items {I = g.row.I.Denot} c.args.behind.now.0) (sym mine)) h)

pub join_last-overflow_sub-at : goal.join_last-overflow_sub-at
join_last-overflow_sub-at g t c =
    let own : rank_above {I = g.row.I.Denot} c.in-Parts.parts.items ≡ c.args.front.now.1 = ap (λ n. rank_of n) (sym c.in-Parts.is) ∙ ap (λ p. p.1) c.node.ensures.alike in
    let some = last_parts {I = g.row.I.Denot} c.in-Parts.parts.items (omega (arith, own, c.requires.lower)) in
    omega (arith, some, c.len-at.ensures, c.in-Parts.parts.ok)

pub join_last-index-requires : goal.join_last-index-requires
join_last-index-requires g t c =
    let own : rank_above {I = g.row.I.Denot} c.in-Parts.parts.items ≡ c.args.front.now.1 = ap (λ n. rank_of n) (sym c.in-Parts.is) ∙ ap (λ p. p.1) c.node.ensures.alike in
    let some = last_parts {I = g.row.I.Denot} c.in-Parts.parts.items (omega (arith, own, c.requires.lower)) in
    omega (arith, some, c.len-at.ensures, c.in-Parts.parts.ok)

pub join_first-index-requires : goal.join_first-index-requires
join_first-index-requires g t c =
    let own : rank_above {I = g.row.I.Denot} c.in-Parts.parts.items ≡ c.args.behind.now.1 = ap (λ n. rank_of n) (sym c.in-Parts.is) ∙ ap (λ p. p.1) c.node.ensures.alike in
    let some = last_parts {I = g.row.I.Denot} c.in-Parts.parts.items (omega (arith, own, c.requires.lower)) in
    omega (arith, some, c.in-Parts.parts.ok)
