-- Threads may share a picture.
use denote.Param.Send.{IsSync, sendable}
use Rattle.std.proofs.Crossing.{crosses}
use Rattle.df_value.proofs.text.Text.TheSendSync as text
use Rattle.df_column.proofs.Crossing.{table_sync}
use Rattle.df_state.specs.contracts.picture.Picture as Picture
use Rattle.df_state.specs.contracts.picture.Picture.TheInside as PictureInside
use Rattle.df_state.specs.contracts.picture.PicturedView as PicturedView

view_sync : IsSync (PicturedView.the_field).row
view_sync = search (sendable, crosses, text.the_sync, table_sync) depth 40

inside_sync : IsSync PictureInside.the_row
inside_sync = let v = view_sync in search (sendable, crosses, table_sync) depth 40

pub picture_sync : IsSync Picture.the_row
picture_sync = let i = inside_sync in search sendable depth 20
