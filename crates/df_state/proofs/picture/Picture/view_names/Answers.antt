use Rattle.std.proofs.Common.{◌∙◌, map, ap}
use Rattle.df_state.specs.Pictures.{PictureParts, named_rows_in}
use Rattle.df_state.proofs.PictureFacts.{names-seen}
use Rattle.df_state.proofs.picture.Picture.view_names.Goals as goal

pub returns : goal.returns
returns c =
    names-seen c.as_slice.result.now c.args.self.now.views c.names_in.result c.names_in.ensures
    (ap (map named_rows_in) c.as_slice.ensures.value ∙ ap (λ (p : PictureParts). p.views) c.self.view_is)
