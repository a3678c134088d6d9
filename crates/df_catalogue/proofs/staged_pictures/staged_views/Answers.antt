use Rattle.df_catalogue.proofs.StagedPictureFacts.{staged-more}
use Rattle.df_catalogue.proofs.staged_pictures.staged_views.Goals as goal

pub loop-at-preserved : goal.loop-at-preserved
loop-at-preserved c frames leads =
    staged-more frames c.args.views.now c.args.staged.now c.loop-at.at c.index-views-at.result c.index-staged-at.result _ _ c.in_ok-staged_view.field-0 c.loop-at-test.true c.requires
    c.index-views-at.is c.index-staged-at.is leads (c.loop-at.invariant frames leads) c.in_ok-push.ensures.items c.in_ok-staged_view.ensures.name c.in_ok-staged_view.ensures.table
