use Rattle.std.proofs.Common.{◌∙◌, refl}
use Rattle.std.specs.Prelude.{remove}
use Rattle.df_catalogue.proofs.PictureFacts.{state-seen}
use Rattle.df_state.proofs.PictureFacts.{tables-numbered}
use Rattle.df_catalogue.proofs.StagedPictureFacts.{pictured-less}
use Rattle.df_catalogue.proofs.staged_pictures.picture_without_view.Goals as goal

pub of-requires : goal.of-requires
of-requires c = tables-numbered c.args.frames.now c.in_ok-tables.tables.items c.requires.sound c.in_ok-tables.ensures

pub returns : goal.returns
returns c =
    let views = c.args.views.now in
    let less = pictured-less views c.args.at c.in_ok-pictured.pictured.items _ c.in_ok-pictured.ensures c.remove.ensures.items in
    state-seen c.args.frames.now c.args.frames.now (remove views c.args.at) (remove views c.args.at) c.in_ok-tables.tables.items c.of.result c.requires.sound refl refl
    c.in_ok-tables.ensures c.of.ensures.frames (c.of.ensures.views ∙ less)
