use Rattle.std.proofs.Common.{flat_map, map}
use Rattle.std.specs.List.{enumerate_from, zip}
use Rattle.std.proofs.lemmas.Result.{on_ok_weaker}
use Rattle.df_session.proofs.AreMadeFacts.{all-both}
use Rattle.df_session.specs.Filling.{frame_appends, registration}
use Rattle.df_session.proofs.filling.fill.Goals as goal

pub returns : goal.returns
returns g c =
    let d = c.args.definitions.now in
    on_ok_weaker c.register_views.result
    (all-both g.S.ViewStore.Makes c.args.store.now c.enter_frames.new.store c.register_views.new.store
    (flat_map frame_appends (enumerate_from 0 c.args.pieces)) (map registration (zip d.document.views d.plans)) c.in_ok-enter_frames.ensures)
    c.register_views.ensures
