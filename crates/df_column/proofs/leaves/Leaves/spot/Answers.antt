use Rattle.std.proofs.Common.{◌+◌, ◌-◌, ◌≤◌, ◌^◌, ap, arith, length, subst, sym}
use Rattle.df_column.specs.BlockLists.{blocks_of_leaves}
use Rattle.df_column.proofs.BlockListLemmas.{few_blocks}
use Rattle.df_column.proofs.LeafEnds.{IsSpotIn, spot_between}
use Rattle.df_column.proofs.SpotLemmas.{length_ends}
use Rattle.df_column.proofs.leaves.Leaves.spot.Goals as goal

found : (c : goal.After-struct_known-3-1) → IsSpotIn c.args.self.now c.args.at (c.run_of_row.result.1.blocks + c.spot-spot.result.block) c.spot-spot.result.row
found c =
    let h = c.run_of_row.ensures.run in
    let bs = blocks_of_leaves c.self.inside.tree in
    subst (λ all. IsSpotIn all c.args.at (c.run_of_row.result.1.blocks + c.spot-spot.result.block) c.spot-spot.result.row) c.self.view_is
    (subst (λ n. IsSpotIn bs c.args.at (n + c.spot-spot.result.block) c.spot-spot.result.row) (sym h.blocks_are)
    (spot_between bs h.front c.run_of_row.result.0.now h.rest c.args.at _ c.spot-spot.result.block c.spot-spot.result.row h.cut h.begins (ap (λ n. c.args.at - n) h.rows_are) (λ le lt. h.ends) c.spot-spot.ensures.block c.spot-spot.ensures.row))

few : (c : goal.After-struct_known-3-1) → record { block : c.run_of_row.result.1.blocks + c.spot-spot.result.block ≤ 2 ^ 60 }
few c =
    let f = found c in
    let l = length_ends 0 c.args.self.now in
    let v = ap length c.self.view_is in
    let n = few_blocks (blocks_of_leaves c.self.inside.tree) c.run_of_row.ensures.some in
    record { block = omega (arith, f.count.in_range, l, v, n, c.self.invariant) }

pub overflow_add-block : goal.overflow_add-block
overflow_add-block c = let f = few c in omega (arith, f.block)

pub returns-clause-block : goal.returns-clause-block
returns-clause-block c = (found c).count

pub returns-clause-few : goal.returns-clause-few
returns-clause-few c = (few c).block

pub returns-clause-row : goal.returns-clause-row
returns-clause-row c = (found c).row_is
