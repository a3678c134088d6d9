use Rattle.df_ops.specs.LoopStates.{cum_sum_after}
use Rattle.df_ops.specs.Aggregates.{cells_of}
use Rattle.std.proofs.lemmas.List.{at_drop_all}
use Rattle.std.specs.Int.{w128}
use Rattle.std.proofs.Common.{ap, arith, ◌∙◌, ◌++◌, sym, append-nil, to_z}
use Rattle.std.proofs.lemmas.Grind.{common_steps}
use Rattle.std.proofs.lemmas.Int.{ints, to_z-of_z}
use Rattle.df_ops.proofs.WindowFacts.{next_row}
use Rattle.df_nodes.proofs.tail_sums.sums_behind.Goals as goal

pub loop-row-preserved : goal.loop-row-preserved
loop-row-preserved c =
    let step = next_row c.args.index c.loop-row.sum c.loop-row.cells.items c.args.rows.now c.loop-row.row-index c.row-item.result (omega arith) c.row-item.is in
    record {
      so_far = grind (arith, ints, to_z-of_z, common_steps);
      least = omega (arith, ints);
      most = omega (arith, ints);
    }

pub returns : goal.returns
returns c =
    sym
    (c.loop-row.invariant.so_far
    ∙ (at_drop_all (λ rows. c.loop-row.cells.items ++ cum_sum_after (to_z w128 c.loop-row.sum-bits) (cells_of c.args.index rows)) c.args.rows.now
    c.loop-row.row-index c.loop-row-test.false
    ∙ append-nil c.loop-row.cells.items))
    ∙ ap (λ s. cum_sum_after s (cells_of c.args.index c.args.rows.now)) (to_z-of_z w128 c.args.before (omega (arith, ints)))
