use Rattle.std.proofs.Common.{◌≡◌, ◌∙◌, ◌<◌, ◌+◌, ◌-◌, ap, arith, length, subst, sym, take}
use Rattle.df_tree.specs.Partitions.{IsPlace}
use Rattle.df_column.specs.BlockLists.{blocks_of_leaves, rows_in}
use Rattle.df_column.specs.LeafTrees.{reaches}
use Rattle.df_column.specs.TableBlocks.{IsRunOfTag}
use Rattle.df_column.proofs.BlockListLemmas.{rows_both}
use Rattle.df_column.proofs.LeafOrder.{above_place, full_at, place_before, run_in_last}
use Rattle.df_column.proofs.LeafTreeLemmas.{exact_before, leaf_at}
use Rattle.df_column.proofs.leaf_tree.LeafTree.run_of_tag.Goals as goal

pub returns-then-reached-eq0-clause-none : goal.returns-then-reached-eq0-clause-none
returns-then-reached-eq0-clause-none c =
    let place = subst (IsPlace (reaches c.args.tag) c.args.self.now) c.if-reached-eq0.true c.leaves_up_to-reached.ensures.place in
    above_place c.args.tag c.args.self.now 0 c.leaves_up_to-reached.ensures.full c.requires.sorted place

pub overflow_sub-result : goal.overflow_sub-result
overflow_sub-result c =
    let ls = c.args.self.now in
    let count = c.leaves_up_to-reached.result.count in
    let x = exact_before ls count c.leaves_up_to-reached.result.sum c.leaves_up_to-reached.ensures.full c.requires.few c.leaves_up_to-reached.ensures.sum in
    let within = c.leaves_up_to-reached.ensures.place.within in
    let leaf = leaf_at ls (count - 1) c.leaf.result.now (omega (arith, within, c.if-reached-eq0.false)) c.leaf.ensures in
    let e : count - 1 + 1 ≡ count = omega (arith, c.if-reached-eq0.false) in
    let next = ap (λ n. rows_in (blocks_of_leaves (take n ls))) (sym e) ∙ ap rows_in leaf.next ∙ rows_both (blocks_of_leaves (take (count - 1) ls)) c.leaf.result.now in
    let own = ap rows_in c.run-run.ensures in
    omega (arith, next, x.rows, own, c.rows.ensures.value)

pub returns-clause-run : goal.returns-clause-run
returns-clause-run c =
    let ls = c.args.self.now in
    let count = c.leaves_up_to-reached.result.count in
    let full = c.leaves_up_to-reached.ensures.full in
    let x = exact_before ls count c.leaves_up_to-reached.result.sum full c.requires.few c.leaves_up_to-reached.ensures.sum in
    let within = c.leaves_up_to-reached.ensures.place.within in
    let lt : count - 1 < length ls = omega (arith, within, c.if-reached-eq0.false) in
    let leaf = leaf_at ls (count - 1) c.leaf.result.now lt c.leaf.ensures in
    let e : count - 1 + 1 ≡ count = omega (arith, c.if-reached-eq0.false) in
    let next = ap (λ n. rows_in (blocks_of_leaves (take n ls))) (sym e) ∙ ap rows_in leaf.next ∙ rows_both (blocks_of_leaves (take (count - 1) ls)) c.leaf.result.now in
    let own = ap rows_in c.run-run.ensures in
    let place = subst (IsPlace (reaches c.args.tag) ls) (sym e) c.leaves_up_to-reached.ensures.place in
    let some = full_at ls (count - 1) c.leaf.result.now full lt c.leaf.ensures in
    let reached = place_before (reaches c.args.tag) ls (count - 1 + 1) (count - 1) c.leaf.result.now place.before (omega arith) c.leaf.ensures in
    subst (λ run. IsRunOfTag (blocks_of_leaves ls) c.args.tag run (c.leaves_up_to-reached.result.sum.rows - c.rows.result)) (sym c.run-run.ensures)
    (run_in_last c.args.tag ls (count - 1) _ c.leaf.result.now full c.requires.sorted place leaf some.0 some.1 reached (omega (arith, next, x.rows, own, c.rows.ensures.value)))
