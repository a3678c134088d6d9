use Rattle.std.proofs.Common.{◌∙◌, ◌+◌, ◌<◌, ap, get_or, length, subst, sym}
use Rattle.df_column.specs.Blocks.{BlockParts, block_rows}
use Rattle.df_column.proofs.same_rows.block_at.Goals as goal

pub returns-clause-within : goal.returns-clause-within
returns-clause-within c =
    let b = c.deref.result.now in
    subst (λ (p : BlockParts). c.locate-spot.result.row < length p.tags) (sym (c.deref.ensures ∙ c.get.ensures b)) (c.locate-spot.ensures.in_block b)

pub returns-clause-along : goal.returns-clause-along
returns-clause-along c = λ i d lt.
    let b = c.deref.result.now in
    let row = c.locate-spot.result.row in
    let there = c.deref.ensures ∙ c.get.ensures b in
    c.locate-spot.ensures.along b d i (subst (λ (p : BlockParts). row + i < length p.tags) there lt)
    ∙ ap (λ (p : BlockParts). get_or (block_rows p) (row + i) d) (sym there)
