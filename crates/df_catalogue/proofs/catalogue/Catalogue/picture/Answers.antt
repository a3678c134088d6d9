use Rattle.std.proofs.Common.{◌∙◌, ap, map}
use Rattle.df_frame.specs.FrameTables.{table_parts}
use Rattle.df_state.specs.Pictures.{picture_of}
use Rattle.df_catalogue.proofs.PictureFacts.{state-seen}
use Rattle.df_state.proofs.PictureFacts.{tables-numbered}
use Rattle.df_state.proofs.StateFacts.{state-of}
use Rattle.df_catalogue.proofs.catalogue.Catalogue.picture.Goals as goal

pub of-requires : goal.of-requires
of-requires g c =
    tables-numbered c.self.inside.frames.items c.in_ok-frames.frames.items c.self.invariant.parts.legal.frames
    (c.in_ok-frames.ensures ∙ ap (map table_parts) c.as_slice.ensures.value)

pub returns-clause-picture : goal.returns-clause-picture
returns-clause-picture g c =
    state-seen c.self.inside.frames.items c.as_slice.result.now c.self.inside.views.items c.as_slice-2.result.now c.in_ok-frames.frames.items c.of.result
    c.self.invariant.parts.legal.frames c.as_slice.ensures.value c.as_slice-2.ensures.value c.in_ok-frames.ensures c.of.ensures.frames
    (c.of.ensures.views ∙ c.in_ok-views.ensures)
    ∙ ap picture_of (state-of c.self.view_is)
