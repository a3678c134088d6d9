use Rattle.std.proofs.Common.{refl}
use Rattle.std.proofs.lemmas.List.{take_all}
use Rattle.std.proofs.lemmas.List.Folds.{flat_map-map}
use Rattle.df_page.specs.Markup.{markup}
use Rattle.df_page.proofs.markup.push_tags.Goals as goal

pub returns : goal.returns
unfolding markup
returns c =
    let all = take_all c.loop-tag.tag-index c.args.tags.now c.loop-tag-test.false in
    rw (c.loop-tag.invariant, all, flat_map-map) refl
