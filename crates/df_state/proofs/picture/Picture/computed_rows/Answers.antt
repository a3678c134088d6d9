use Rattle.std.proofs.Common.{◌∙◌, ap, map}
use Rattle.std.proofs.lemmas.Result.{IfOk-weaker}
use Rattle.df_plan.specs.Meaning.{table_of}
use Rattle.df_state.specs.Pictures.{PictureParts, rows_in}
use Rattle.df_state.proofs.PictureFacts.{all-shown}
use Rattle.df_state.proofs.picture.Picture.computed_rows.Goals as goal

pub returns : goal.returns
returns c =
    let plan = c.args.plan.now in
    let tables =
    c.as_slice-2.ensures.value ∙ (c.in_ok-frames.ensures ∙ (ap (map rows_in) c.as_slice.ensures.value ∙ all-shown c.self.inside.frames.items c.args.self.now.frames (ap (λ (p : PictureParts). p.frames) c.self.view_is))) in
    IfOk-weaker c.evaluate.result _ _ (λ made is. is ∙ ap (λ ts. (table_of plan.plan plan.frames ts).rows) tables) c.evaluate.ensures.value
