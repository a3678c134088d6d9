use Rattle.std.proofs.Common.{◌∙◌, ap, sym}
use Rattle.std.specs.Prelude.{Ok, ok_or}
use Rattle.df_state.specs.declared.fault.CatalogueFault.TheVariants as fault
use Rattle.df_state.proofs.PictureFacts.{rows-shown}
use Rattle.df_state.proofs.picture.Picture.frame_rows.Goals as goal

pub returns-in_ok-rows-in-Some : goal.returns-in_ok-rows-in-Some
returns-in_ok-rows-in-Some c =
    ap (λ o. ok_or o fault.NoFrame) (rows-shown c.in-Some.table.now c.args.self.now.frames c.args.frame c.in-Some.ensures.rows)
    ∙ ap Ok (sym (c.from_vec.ensures ∙ c.in_ok-rows-in-Some.ensures))
