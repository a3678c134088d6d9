use Rattle.std.proofs.Common.{ap}
use Rattle.df_state.specs.Pictures.{PictureParts}
use Rattle.df_state.proofs.PictureFacts.{view-rows}
use Rattle.df_state.proofs.picture.Picture.view_table.Goals as goal

pub returns : goal.returns
returns c = rw (c.table_named.ensures, c.as_slice.ensures.value, ← (ap (λ (p : PictureParts). p.views) c.self.view_is)) (view-rows _ c.args.name.now)
