use Rattle.std.proofs.Common.{◌∙◌, ap, subst, sym}
use Rattle.std.specs.Prelude.{option_map, slice_get}
use Rattle.std.specs.Option.{IfSome}
use Rattle.std.proofs.lemmas.Option.{slice_get-map}
use Rattle.df_frame.specs.FrameTables.{IsNumberedTable}
use Rattle.df_state.specs.Pictures.{numbered_rows_in}
use Rattle.df_state.proofs.Places.{item-copied}
use Rattle.df_state.proofs.PictureFacts.{numbered-at}
use Rattle.df_state.proofs.picture.Picture.frame_table.Goals as goal

pub returns-clause-rows : goal.returns-clause-rows
returns-clause-rows c =
    ap (option_map numbered_rows_in) (item-copied _ _ c.get.result c.get.ensures.lookup ∙ ap (λ ts. slice_get ts c.args.frame) c.deref.ensures.value)
    ∙ (sym (slice_get-map numbered_rows_in c.self.inside.frames.items c.args.frame) ∙ ap (λ p. slice_get p.frames c.args.frame) c.self.view_is)

pub returns-clause-numbered : goal.returns-clause-numbered
returns-clause-numbered c =
    subst (λ o. IfSome o (λ t. IsNumberedTable t.rows))
    (sym (item-copied _ _ c.get.result c.get.ensures.lookup ∙ ap (λ ts. slice_get ts c.args.frame) c.deref.ensures.value))
    (numbered-at c.self.inside.frames.items c.args.frame c.self.invariant)
