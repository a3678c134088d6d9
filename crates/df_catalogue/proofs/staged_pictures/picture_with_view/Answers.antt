use Rattle.std.proofs.Common.{◌∙◌, ◌++◌, ◌∷◌, [], refl}
use Rattle.df_catalogue.proofs.PictureFacts.{state-seen}
use Rattle.df_state.proofs.PictureFacts.{tables-numbered}
use Rattle.df_catalogue.proofs.StagedPictureFacts.{pictured-last}
use Rattle.df_catalogue.proofs.staged_pictures.picture_with_view.Goals as goal

pub of-requires : goal.of-requires
of-requires c = tables-numbered c.args.frames.now c.in_ok-tables.tables.items c.requires c.in_ok-tables.ensures

pub returns : goal.returns
returns c =
    let views = c.args.views.now in
    let view = c.args.view.now in
    let last = pictured-last views view c.in_ok-pictured.pictured.items _ c.in_ok-pictured_view.field-0 c.in_ok-pictured.ensures c.in_ok-push.ensures.items
    c.in_ok-pictured_view.ensures.name c.in_ok-pictured_view.ensures.table in
    state-seen c.args.frames.now c.args.frames.now (views ++ view ∷ []) (views ++ view ∷ []) c.in_ok-tables.tables.items c.of.result c.requires refl refl
    c.in_ok-tables.ensures c.of.ensures.frames (c.of.ensures.views ∙ last)
