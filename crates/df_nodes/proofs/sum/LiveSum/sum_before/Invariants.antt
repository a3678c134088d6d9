use Rattle.std.proofs.Common.{◌≡◌, ◌≤◌, take}
use Rattle.std.specs.Prelude.{T}
use Rattle.std.specs.List.{list_all}
use Rattle.std.specs.FinMap as finite
use Rattle.df_column.specs.Bounds.{is_below}
use Rattle.df_column.specs.declared.tag.Tag.{Tag}
use Rattle.df_nodes.specs.Sums.{HasSumsBefore, sum_to}
use Rattle.df_nodes.proofs.sum.LiveSum.sum_before.Given as goal

abbrev pub invariant-loop-at : goal.invariant-loop-at
invariant-loop-at l =
    record {
      within : l.at ≤ l.start;
      same : (first : Tag) → T (list_all (λ r. is_below r.0 first) (take l.start (finite.entries l.input.rows))) → HasSumsBefore l.self.places l.self.index l.self.output.rows l.input.rows first
          → sum_to l.self.index l.input.rows l.at ≡ sum_to l.self.index l.input.rows l.start;
    }

abbrev pub decreases-loop-at : goal.decreases-loop-at
decreases-loop-at l = l.at
