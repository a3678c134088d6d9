use Rattle.std.proofs.Common.{◌<◌, ◌∙◌, ap, get_or, length, subst, sym}
use Rattle.std.specs.Arc.{arc_value}
use Rattle.df_column.specs.declared.tag.Tag.{Tag}
use Rattle.df_column.proofs.SpotLemmas.{at_spot}
use Rattle.df_column.proofs.spots.tag_at.Goals as goal

pub get-requires-2 : goal.get-requires-2
get-requires-2 c =
    let b = arc_value c.get.result.now in
    let here = subst (λ p. c.locate-spot.result.row < length p.tags) (sym (c.get.ensures b)) (c.locate-spot.ensures.in_block b) in
    subst (λ ts. c.locate-spot.result.row < length ts) (sym (c.tags.ensures.tags ∙ ap (λ p. p.tags) c.deref.ensures)) here

pub returns : goal.returns
returns c = λ d.
    let none : Tag = record { first = 0; second = 0; third = 0 } in
    c.get-2.ensures none ∙ ap (λ ts. get_or ts c.locate-spot.result.row none) (c.tags.ensures.tags ∙ ap (λ p. p.tags) c.deref.ensures)
    ∙ ap (λ r. r.0) (sym (at_spot c.args.blocks.now c.args.at c.locate-spot.result.block c.locate-spot.result.row (arc_value c.get.result.now) none c.locate-spot.ensures (c.get.ensures (arc_value c.get.result.now)) d))
