use denote.Param.Send.{sendable}
use Rattle.std.proofs.Crossing.{crosses}
use Rattle.df_jobs.proofs.CrossingOutcomes.{outcome_send}
use Rattle.df_jobs.proofs.CrossingPictures.{picture_sync}
use Rattle.df_jobs.proofs.comparing.find_all.Goals as goal

pub for_each_mut-requires-send-T : goal.for_each_mut-requires-send-T
for_each_mut-requires-send-T g c κs within = let o = outcome_send in search (sendable, crosses) depth 40

pub for_each_mut-requires-sync-F : goal.for_each_mut-requires-sync-F
for_each_mut-requires-sync-F g c κs within = let p = picture_sync in let b = c.type_bounds in search sendable depth 20
