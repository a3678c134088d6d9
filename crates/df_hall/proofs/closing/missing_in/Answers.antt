use Rattle.std.proofs.Common.{◌≡◌, ℕ, ◌+◌, ◌<◌, ◌∙◌, Bool, true, false, List, drop, length, refl, ap, sym, arith}
use Rattle.std.specs.Prelude.{Option, Some, slice_get, if◌then◌else◌}
use Rattle.df_frame.specs.declared.state.FrameState.{FrameState}
use Rattle.df_state.specs.Desks.{DeskParts}
use Rattle.df_hall.specs.Closing.{is_settled, missing_from}
use Rattle.df_state.proofs.ListFacts.{item-at}
use Rattle.df_hall.proofs.closing.missing_in.Goals as goal

on-true : (b c : Bool) (m : Option ℕ) (frame : ℕ) → b ≡ c → b ≡ true → (if c then m else Some frame) ≡ m
on-true b true m frame e h = refl
on-true b false m frame e h = cc

on-false : (b c : Bool) (m : Option ℕ) (frame : ℕ) → b ≡ c → b ≡ false → (if c then m else Some frame) ≡ Some frame
on-false b true m frame e h = cc
on-false b false m frame e h = refl

goes-on :
    (desks : List DeskParts) (frames : List FrameState) (i : ℕ) (b : Bool) (whole : Option ℕ) → i < length frames →
    ((f : FrameState) → slice_get frames i ≡ Some f → b ≡ is_settled desks i f) → b ≡ true → whole ≡ missing_from desks i (drop i frames) →
    whole ≡ missing_from desks (i + 1) (drop (i + 1) frames)
goes-on desks frames i b whole h test holds was =
    let x = item-at frames i h in
    was ∙ (ap (missing_from desks i) x.2 ∙ on-true b (is_settled desks i x.0) (missing_from desks (i + 1) (drop (i + 1) frames)) i (test x.0 x.1) holds)

stops :
    (desks : List DeskParts) (frames : List FrameState) (i : ℕ) (b : Bool) (whole : Option ℕ) → i < length frames →
    ((f : FrameState) → slice_get frames i ≡ Some f → b ≡ is_settled desks i f) → b ≡ false → whole ≡ missing_from desks i (drop i frames) →
    Some i ≡ whole
stops desks frames i b whole h test fails was =
    let x = item-at frames i h in
    sym (was ∙ (ap (missing_from desks i) x.2 ∙ on-false b (is_settled desks i x.0) (missing_from desks (i + 1) (drop (i + 1) frames)) i (test x.0 x.1) fails))

pub loop-frame-preserved : goal.loop-frame-preserved
loop-frame-preserved g c =
    goes-on c.args.desks.now c.args.catalogue.now.state.frames c.loop-frame.frame c.is_settled_at.result (missing_from c.args.desks.now 0 c.args.catalogue.now.state.frames)
    (let h = c.loop-frame-test.true in let n = c.frame_count-frame-end.ensures in omega (arith, h, n)) c.is_settled_at.ensures c.if-not-is_settled_at.false c.loop-frame.invariant

pub returns-then-not-is_settled_at-clause-missing : goal.returns-then-not-is_settled_at-clause-missing
returns-then-not-is_settled_at-clause-missing g c =
    stops c.args.desks.now c.args.catalogue.now.state.frames c.loop-frame.frame c.is_settled_at.result (missing_from c.args.desks.now 0 c.args.catalogue.now.state.frames)
    (let h = c.loop-frame-test.true in let n = c.frame_count-frame-end.ensures in omega (arith, h, n)) c.is_settled_at.ensures c.if-not-is_settled_at.true c.loop-frame.invariant
