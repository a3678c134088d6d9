use Rattle.std.proofs.Common.{◌≡◌, ◌∙◌, ap, arith, drop, of_z, to_z}
use Rattle.std.specs.FinMap as finite
use Rattle.std.specs.Int.{w128}
use Rattle.std.proofs.lemmas.List.{length-map, take_all}
use Rattle.df_ops.specs.Aggregates.{cells_of}
use Rattle.df_ops.specs.LoopStates.{cum_sum_after}
use Rattle.df_nodes.proofs.sum.LiveSum.sums_from.Goals as goal

pub returns-clause-sums : goal.returns-clause-sums
returns-clause-sums c =
    let u = c.args.input.now.rows in
    let n = finite.len-entries u in
    let l = length-map (finite.entries u) (λ e. e.1) in
    let len = c.len.ensures.value in
    let le = c.requires.within in
    let rows : c.in_ok-rows.rows.items ≡ drop c.args.start (finite.values u) = c.in_ok-rows.ensures ∙ ap (drop c.args.start) (take_all c.len.result (finite.values u) (omega (arith, n, l, len))) in
    record {
      within = omega (arith, n, le);
      front = c.requires.front;
      rows_are = rows;
      sums_are = c.in_ok-sums.ensures ∙ (λ i. cum_sum_after (to_z w128 (of_z w128 c.args.before)) (cells_of c.args.self.now.index ((c.deref.ensures.value ∙ rows) i)));
    }
