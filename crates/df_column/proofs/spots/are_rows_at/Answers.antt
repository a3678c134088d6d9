use Rattle.std.proofs.Common.{◌≡◌, ◌∙◌, ◌+◌, ◌-◌, ◌<◌, ap, arith, drop, get_or, length, length-take, refl, subst, sym, take}
use Rattle.std.proofs.lemmas.Bool.{false≢true}
use Rattle.std.specs.Arc.{arc_value}
use Rattle.df_column.specs.Blocks.{BlockParts, block_rows, rows_of_blocks}
use Rattle.df_column.specs.RowRuns.{StandFrom}
use Rattle.df_column.proofs.RunRows.{all_stand, part_stands, stand_more}
use Rattle.df_column.proofs.spots.are_rows_at.Goals as goal

pub overflow_add-at : goal.overflow_add-at
overflow_add-at c = omega (arith, c.requires.few, c.loop-done-test.true)

pub overflow_sub-len : goal.overflow_sub-len
overflow_sub-len c =
    let b = arc_value c.get-block.result.now in
    let inside = subst (λ (p : BlockParts). c.locate-spot.result.row < length p.tags) (sym (c.get-block.ensures b)) (c.locate-spot.ensures.in_block b) in
    let tags = c.len.ensures ∙ ap length c.tags.ensures.tags ∙ ap (λ (p : BlockParts). length p.tags) c.deref.ensures in
    omega (arith, inside, tags)

pub are_rows_in-requires-clause-within : goal.are_rows_in-requires-clause-within
are_rows_in-requires-clause-within c =
    let b = arc_value c.get-block.result.now in
    let inside = subst (λ (p : BlockParts). c.locate-spot.result.row < length p.tags) (sym (c.get-block.ensures b)) (c.locate-spot.ensures.in_block b) in
    let tags = c.len.ensures ∙ ap length c.tags.ensures.tags ∙ ap (λ (p : BlockParts). length p.tags) c.deref.ensures in
    let own = ap (λ (p : BlockParts). length p.tags) c.deref-in-loop-done.ensures in
    let part = length-take (c.loop-done.done + c.min-many.result - c.loop-done.done) (drop c.loop-done.done c.args.rows.now) in
    omega (arith, inside, tags, own, part, c.min-many.ensures)

pub loop-done-smaller : goal.loop-done-smaller
loop-done-smaller c =
    let b = arc_value c.get-block.result.now in
    let inside = subst (λ (p : BlockParts). c.locate-spot.result.row < length p.tags) (sym (c.get-block.ensures b)) (c.locate-spot.ensures.in_block b) in
    let tags = c.len.ensures ∙ ap length c.tags.ensures.tags ∙ ap (λ (p : BlockParts). length p.tags) c.deref.ensures in
    omega (arith, inside, tags, c.min-many.ensures, c.loop-done-test.true)

pub loop-done-preserved : goal.loop-done-preserved
loop-done-preserved c =
    let bs = c.args.blocks.now in
    let rows = c.args.rows.now in
    let b = arc_value c.get-block.result.now in
    let done = c.loop-done.done in
    let many = c.min-many.result in
    let row = c.locate-spot.result.row in
    let there : b ≡ get_or bs c.locate-spot.result.block b = c.get-block.ensures b in
    let inside = subst (λ (p : BlockParts). row < length p.tags) (sym there) (c.locate-spot.ensures.in_block b) in
    let tags = c.len.ensures ∙ ap length c.tags.ensures.tags ∙ ap (λ (p : BlockParts). length p.tags) c.deref.ensures in
    let short : done + many - done ≡ many = omega arith in
    let stands = subst (λ (p : BlockParts). StandFrom (block_rows p) row (c.args.first + done) (take (done + many - done) (drop done rows))) c.deref-in-loop-done.ensures (c.are_rows_in.ensures.0 c.if-not-are_rows_in.false) in
    record {
      within = omega (arith, c.min-many.ensures, c.loop-done-test.true);
      stand = stand_more (rows_of_blocks bs) c.args.at c.args.first rows done many (block_rows b) row (take (done + many - done) (drop done rows)) c.loop-done.invariant.stand
          (omega (arith, c.min-many.ensures, c.loop-done-test.true))
          (ap (λ n. take n (drop done rows)) short) stands
          (λ i d lt.
          c.locate-spot.ensures.along b d i (subst (λ (p : BlockParts). row + i < length p.tags) there (omega (arith, inside, tags, lt, c.min-many.ensures)))
          ∙ ap (λ (p : BlockParts). get_or (block_rows p) (row + i) d) (sym there));
    }

pub returns-then-not-are_rows_in : goal.returns-then-not-are_rows_in
returns-then-not-are_rows_in c =
    let bs = c.args.blocks.now in
    let rows = c.args.rows.now in
    let b = arc_value c.get-block.result.now in
    let done = c.loop-done.done in
    let many = c.min-many.result in
    let row = c.locate-spot.result.row in
    let there : b ≡ get_or bs c.locate-spot.result.block b = c.get-block.ensures b in
    let inside = subst (λ (p : BlockParts). row < length p.tags) (sym there) (c.locate-spot.ensures.in_block b) in
    let tags = c.len.ensures ∙ ap length c.tags.ensures.tags ∙ ap (λ (p : BlockParts). length p.tags) c.deref.ensures in
    let short : done + many - done ≡ many = omega arith in
    let part = take (done + many - done) (drop done rows) in
    let part_is = ap (λ n. take n (drop done rows)) short in (
      λ h. absurd (cc),
      λ stand.
          let own = part_stands (rows_of_blocks bs) c.args.at c.args.first rows done many (block_rows b) row part stand
          (omega (arith, c.min-many.ensures, c.loop-done-test.true)) part_is
          (λ i d lt.
          c.locate-spot.ensures.along b d i (subst (λ (p : BlockParts). row + i < length p.tags) there (omega (arith, inside, tags, lt, c.min-many.ensures)))
          ∙ ap (λ (p : BlockParts). get_or (block_rows p) (row + i) d) (sym there)) in
          absurd (false≢true (sym c.if-not-are_rows_in.true
          ∙ c.are_rows_in.ensures.1 (subst (λ (p : BlockParts). StandFrom (block_rows p) row (c.args.first + done) part) (sym c.deref-in-loop-done.ensures) own))),
    )

pub returns : goal.returns
returns c = (
  λ h. all_stand (rows_of_blocks c.args.blocks.now) c.args.at c.args.first c.args.rows.now c.loop-done.done c.loop-done.invariant.stand (omega (arith, c.loop-done-test.false)),
  λ stand. refl,
)
