use Rattle.std.proofs.Common.{◌≡◌, ◌∙◌, ◌+◌, ap, arith, rules, true, false}
use Rattle.std.specs.Arc.{arc_value}
use Rattle.df_column.specs.BlockLists.{min_or_max_cell}
use Rattle.df_column.specs.MinMaxCells.{is_beyond_best}
use Rattle.df_column.proofs.KeptMinMax.{beyond_more, not_beyond_all}
use Rattle.df_column.proofs.ListParts.{none_between}
use Rattle.df_column.proofs.run.Run.is_beyond_part.Goals as goal

pub loop-at-init : goal.loop-at-init
loop-at-init c = record {
  above = omega arith;
  beyond = ap (λ bs. is_beyond_best c.args.which (min_or_max_cell c.args.which bs c.args.index) c.args.cell.now) (none_between c.args.self.now c.args.low);
}

pub returns-then-not-is_beyond_block : goal.returns-then-not-is_beyond_block
returns-then-not-is_beyond_block c =
    let h = c.loop-at.invariant in
    let b = arc_value c.get.result.now in
    let f : c.is_beyond_block.result ≡ false = search rules in
    let more = beyond_more c.args.which c.args.self.now c.args.low c.loop-at.at c.args.index b c.deref.result.now c.args.cell.now c.is_beyond_block.result h.above (omega (arith, c.loop-at-test.true, c.requires.in_range)) (c.get.ensures b) c.deref.ensures h.beyond c.is_beyond_block.ensures in
    not_beyond_all c.args.which c.args.self.now c.args.low (c.loop-at.at + 1) c.args.high c.args.index c.args.cell.now (omega (arith, h.above)) (omega arith) (more ∙ f)

pub loop-at-preserved : goal.loop-at-preserved
loop-at-preserved c =
    let h = c.loop-at.invariant in
    let b = arc_value c.get.result.now in
    let t : c.is_beyond_block.result ≡ true = search rules in
    let more = beyond_more c.args.which c.args.self.now c.args.low c.loop-at.at c.args.index b c.deref.result.now c.args.cell.now c.is_beyond_block.result h.above (omega (arith, c.loop-at-test.true, c.requires.in_range)) (c.get.ensures b) c.deref.ensures h.beyond c.is_beyond_block.ensures in
    record {
      above = omega (arith, h.above);
      beyond = more ∙ t;
    }
