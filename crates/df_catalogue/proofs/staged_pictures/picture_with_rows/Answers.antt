use Rattle.std.proofs.Common.{◌∙◌, subst, sym}
use Rattle.std.specs.Prelude.{slice_set}
use Rattle.df_frame.specs.FrameParts.{states_of}
use Rattle.df_catalogue.specs.LiveViews.{tagged_frames, AreStaged}
use Rattle.df_catalogue.specs.Staging.{frames_with}
use Rattle.df_catalogue.proofs.StagedPictureFacts.{rows-numbered, rows-pictured}
use Rattle.df_catalogue.proofs.staged_pictures.picture_with_rows.Goals as goal

pub of-requires : goal.of-requires
of-requires c =
    rows-numbered c.args.frames.now c.args.views.now c.args.rows.now _ c.requires (λ i. slice_set (c.in_ok-tables.ensures i) c.args.rows.now.frame (c.in_ok-tables-2.ensures i))

pub returns : goal.returns
returns c =
    let frames = c.args.frames.now in
    let views = c.args.views.now in
    let rows = c.args.rows.now in
    let after = tagged_frames (states_of (frames_with frames rows)) in
    let leads = subst (λ ss. AreStaged views ss after) (sym c.as_slice.ensures.value) c.requires.leads in
    rows-pictured frames views rows _ c.of.result c.requires (λ i. slice_set (c.in_ok-tables.ensures i) rows.frame (c.in_ok-tables-2.ensures i))
    c.of.ensures.frames (c.of.ensures.views ∙ c.in_ok-views.ensures after leads)
