use Rattle.std.proofs.Common.{◌∙◌, ◌++◌, ◌∷◌, [], ap, append-nil, append_assoc, arith, length, sym}
use Rattle.std.specs.Arc.{arc_value}
use Rattle.df_column.specs.Blocks.{rows_of_blocks}
use Rattle.df_column.proofs.LeafEnds.{count_push}
use Rattle.df_column.proofs.ListParts.{none_between, part_more}
use Rattle.df_column.proofs.run.Run.joined.Goals as goal

pub loop-at-init : goal.loop-at-init
loop-at-init c = record {
  above = omega arith;
  blocks = c.in_ok-out.ensures ∙ sym (ap (λ bs. c.args.self ++ bs) (none_between c.args.other.now c.args.low) ∙ append-nil c.args.self);
  few = let n = ap (λ bs. length (rows_of_blocks bs)) c.in_ok-out.ensures in omega (arith, n, c.requires.few);
}

pub loop-at-preserved : goal.loop-at-preserved
loop-at-preserved c =
    let h = c.loop-at.invariant in
    let b = arc_value c.in_ok-block.block in
    let is = c.in_ok-block.ensures ∙ c.get.ensures b in
    let more = part_more c.args.other.now c.args.low c.loop-at.at b h.above (omega (arith, c.loop-at-test.true, c.requires.in_range)) is in
    let n = ap (λ bs. length (rows_of_blocks bs)) c.in_ok-out-2.ensures ∙ count_push c.loop-at.out b in
    let t = ap length c.tags.ensures.tags ∙ ap (λ p. length p.tags) c.deref.ensures in
    record {
      above = omega (arith, h.above);
      blocks = c.in_ok-out-2.ensures ∙ ap (λ bs. bs ++ b ∷ []) h.blocks ∙ append_assoc c.args.self _ (b ∷ []) ∙ ap (λ bs. c.args.self ++ bs) (sym more);
      few = omega (arith, n, t, c.in_ok-end_behind.ensures.value, c.in_ok-end_behind.ensures.few, c.rows.ensures.value);
    }
