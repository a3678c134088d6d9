use Rattle.std.proofs.Common.{◌≡◌, ◌∙◌, Some, ap, arith, map, subst, sym}
use Rattle.std.specs.Arc.{arc_value}
use Rattle.df_column.specs.BlockLists.{min_or_max_cell}
use Rattle.df_column.specs.Blocks.{block_rows}
use Rattle.df_column.specs.MinMaxCells.{cells_at, min_or_max_of, min_or_max_with}
use Rattle.df_column.proofs.MinMaxLemmas.{min_or_max_with_none}
use Rattle.df_column.proofs.LeafMinMax.{block_min_or_max}
use Rattle.df_column.proofs.ListParts.{none_between}
use Rattle.df_column.proofs.run.Run.min_or_max_between.Goals as goal

pub loop-at-init : goal.loop-at-init
loop-at-init c = record {
  above = omega arith;
  best = sym (ap (λ bs. min_or_max_with c.args.which c.args.best (min_or_max_cell c.args.which bs c.args.index)) (none_between c.args.self.now c.args.low) ∙ min_or_max_with_none c.args.which c.args.best);
}

pub loop-at-preserved : goal.loop-at-preserved
loop-at-preserved c =
    let h = c.loop-at.invariant in
    let made = subst (λ b. c.in_ok-best.best ≡ min_or_max_with c.args.which c.loop-at.best (min_or_max_of c.args.which (cells_at (Some c.args.index) (map (λ r. r.1) (block_rows b))))) c.deref.ensures c.in_ok-best.ensures in
    record {
      above = omega (arith, h.above);
      best = block_min_or_max c.args.which c.args.self.now c.args.low c.loop-at.at c.args.index (arc_value c.get.result.now) c.args.best c.loop-at.best c.in_ok-best.best h.above (omega (arith, c.loop-at-test.true, c.requires.in_range)) (c.get.ensures (arc_value c.get.result.now)) h.best made;
    }
