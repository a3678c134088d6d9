use Rattle.std.proofs.Common.{◌∙◌, length, Some, None, refl, sym, ap}
use Rattle.std.specs.Prelude.{IfSome, option_map}
use Rattle.std.specs.Slice.{IsItemAt}
use Rattle.std.proofs.lemmas.Option.{slice_get-map, slice_get_read}
use Rattle.df_frame.specs.FrameParts.{schemas_of, states_of}
use Rattle.df_frame.specs.Frames.{IsNumbered}
use Rattle.df_state.proofs.SoundFrames.{numbered-at}
use Rattle.df_state.proofs.Places.{item-copied}
use Rattle.df_state.proofs.checks.frame_at.Goals as goal

pub returns-clause-schema : goal.returns-clause-schema
returns-clause-schema c =
    ap (option_map (λ f. f.schema)) (item-copied _ _ c.get.result c.get.ensures.lookup)
    ∙ sym (slice_get-map (λ f. f.schema) c.args.frames.now c.args.frame)

pub returns-clause-state : goal.returns-clause-state
returns-clause-state c =
    ap (option_map (λ f. f.state)) (item-copied _ _ c.get.result c.get.ensures.lookup)
    ∙ sym (slice_get-map (λ f. f.state) c.args.frames.now c.args.frame)

pub returns-clause-sound : goal.returns-clause-sound
returns-clause-sound c =
    let frames = c.args.frames.now in
    elim c.get.result as (λ r. IsItemAt frames c.args.frame r → IfSome r (λ f. IsNumbered f.now.state)) [
      | Some x ↦ λ e. numbered-at (schemas_of frames) (states_of frames) c.args.frame x.now.state c.requires
          (slice_get-map (λ f. f.state) frames c.args.frame ∙ ap (option_map (λ f. f.state)) (slice_get_read frames (length frames) c.args.frame x.now refl e.3.0 e.1))
      | None ↦ λ e. tt
    ] c.get.ensures.lookup
