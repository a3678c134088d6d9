use Rattle.std.proofs.Common.{◌≡◌, ◌≤◌, ◌∙◌, List, [], ◌∷◌, length, map, refl, ap, arith}
use Rattle.std.proofs.lemmas.List.{take_all}
use Rattle.df_frame.specs.FrameParts.{FrameParts, states_of}
use Rattle.df_frame.specs.Frames.{rows_of}
use Rattle.df_state.specs.States.{tables_of_frames}
use Rattle.df_state.proofs.Loops.{mapped-more}
use Rattle.df_state.proofs.tables.frame_rows.Goals as goal

pub loop-frame-preserved : goal.loop-frame-preserved
loop-frame-preserved c =
    mapped-more c.args.frames.now c.loop-frame.frame-index c.frame-item.result (λ f. rows_of f.state) _ _ _ c.loop-frame-test.true c.frame-item.is c.loop-frame.invariant c.in_ok-push.ensures.items c.in_ok-rows-2.ensures

tables-of : (frames : List FrameParts) → map (λ f. rows_of f.state) frames ≡ tables_of_frames (states_of frames)
tables-of [] = refl
tables-of (f ∷ fs) = ap (λ later. rows_of f.state ∷ later) (tables-of fs)

pub returns : goal.returns
returns c =
    let past : length c.args.frames.now ≤ c.loop-frame.frame-index = omega (arith, c.loop-frame-test.false) in
    c.loop-frame.invariant ∙ (ap (map (λ f. rows_of f.state)) (take_all c.loop-frame.frame-index c.args.frames.now past) ∙ tables-of c.args.frames.now)
