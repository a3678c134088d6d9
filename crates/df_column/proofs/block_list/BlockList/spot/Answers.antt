use Rattle.std.proofs.Common.{◌≡◌, ◌∙◌, ◌+◌, ◌++◌, [], ap, append-nil, arith, length, length-append, subst, sym}
use Rattle.df_column.proofs.BlockListLemmas.{few_blocks, rows_both}
use Rattle.df_column.proofs.LeafEnds.{IsSpotIn, spot_between}
use Rattle.df_column.proofs.SpotLemmas.{length_ends}
use Rattle.df_column.proofs.block_list.BlockList.spot.Goals as goal

in_leaves : (c : goal.After-spot) → IsSpotIn c.args.self.now c.args.at c.spot.result.block c.spot.result.row
in_leaves c =
    let z : 0 + c.spot.result.block ≡ c.spot.result.block = omega arith in
    subst (λ n. IsSpotIn c.args.self.now c.args.at n c.spot.result.row) z
    (spot_between c.args.self.now [] c.self.inside.leaves c.self.inside.tail c.args.at c.args.at c.spot.result.block c.spot.result.row
    (sym c.self.view_is) (omega arith) (omega arith) (λ le lt. omega (arith, c.if-at-first.true, c.rows-first.ensures.value)) c.spot.ensures.block c.spot.ensures.row)

pub returns-then-at-first-clause-block : goal.returns-then-at-first-clause-block
returns-then-at-first-clause-block c = (in_leaves c).count

pub returns-then-at-first-clause-row : goal.returns-then-at-first-clause-row
returns-then-at-first-clause-row c = (in_leaves c).row_is

in_tail : (c : goal.After-struct_known-1) → IsSpotIn c.args.self.now c.args.at (c.blocks-2.result + c.spot-spot.result.block) c.spot-spot.result.row
in_tail c =
    let long = ap length (sym c.self.view_is) ∙ length-append c.self.inside.leaves c.self.inside.tail in
    subst (λ n. IsSpotIn c.args.self.now c.args.at (n + c.spot-spot.result.block) c.spot-spot.result.row) (sym c.blocks-2.ensures.value)
    (spot_between c.args.self.now c.self.inside.leaves c.self.inside.tail [] c.args.at _ c.spot-spot.result.block c.spot-spot.result.row
    (sym c.self.view_is ∙ ap (λ bs. c.self.inside.leaves ++ bs) (sym (append-nil c.self.inside.tail)))
    (omega (arith, c.if-at-first.false, c.rows-first.ensures.value)) (omega (arith, c.rows-first.ensures.value)) (λ le lt. absurd (omega (arith, le, lt, long))) c.spot-spot.ensures.block c.spot-spot.ensures.row)

pub overflow_add-block : goal.overflow_add-block
overflow_add-block c =
    let f = in_tail c in
    let l = length_ends 0 c.args.self.now in
    let long = ap length (sym c.self.view_is) ∙ length-append c.self.inside.leaves c.self.inside.tail in
    let front = few_blocks c.self.inside.leaves c.blocks-2.ensures.some in
    let back = few_blocks c.self.inside.tail c.spot-spot.ensures.some in
    let both = rows_both c.self.inside.leaves c.self.inside.tail in
    let few = c.self.invariant in
    omega (arith, f.count.in_range, l, long, front, back, both, few)

pub returns-clause-block : goal.returns-clause-block
returns-clause-block c = (in_tail c).count

pub returns-clause-few : goal.returns-clause-few
returns-clause-few c =
    let f = in_tail c in
    let l = length_ends 0 c.args.self.now in
    let long = ap length (sym c.self.view_is) ∙ length-append c.self.inside.leaves c.self.inside.tail in
    let front = few_blocks c.self.inside.leaves c.blocks-2.ensures.some in
    let back = few_blocks c.self.inside.tail c.spot-spot.ensures.some in
    let both = rows_both c.self.inside.leaves c.self.inside.tail in
    let few = c.self.invariant in
    omega (arith, f.count.in_range, l, long, front, back, both, few)

pub returns-clause-row : goal.returns-clause-row
returns-clause-row c = (in_tail c).row_is
