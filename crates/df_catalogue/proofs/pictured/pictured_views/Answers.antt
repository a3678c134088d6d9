use Rattle.df_catalogue.proofs.PictureFacts.{pictured-more}
use Rattle.df_catalogue.proofs.pictured.pictured_views.Goals as goal

pub loop-view-preserved : goal.loop-view-preserved
loop-view-preserved c =
    pictured-more c.args.views.now c.loop-view.view-index c.view-item.result _ _ c.in_ok-pictured_view.field-0 c.loop-view-test.true c.view-item.is c.loop-view.invariant c.in_ok-push.ensures.items
    c.in_ok-pictured_view.ensures.name c.in_ok-pictured_view.ensures.table
