use Rattle.std.proofs.Common.{◌≡◌, ◌∙◌, ap, codes, refl, subst, sym}
use Rattle.std.specs.Prelude.{string_bytes}
use Rattle.df_document.specs.Opening.{schemas_of}
use Rattle.df_explain.specs.Places.{IsOneLine}
use Rattle.df_explain.specs.PlanPlaces.{IsStepText}
use Rattle.df_explain.proofs.LineFacts.{tested}
use Rattle.df_explain.proofs.PlaceFacts.{at_step, if_ok_then}
use Rattle.df_explain.proofs.plan_words.words_in_plan.Goals as goal

pub returns-in-TooManyScans-clause-line : goal.returns-in-TooManyScans-clause-line
returns-in-TooManyScans-clause-line c =
    if_ok_then c.from_str.result c.from_str.ensures.ok
    (λ words e. subst IsOneLine (sym e) (tested (codes "it reads frames more than 3 times, those of right sides too") refl))

pub returns-in-TooDeep-clause-line : goal.returns-in-TooDeep-clause-line
returns-in-TooDeep-clause-line c =
    if_ok_then c.from_str-in-TooDeep.result c.from_str-in-TooDeep.ensures.ok
    (λ words e. subst IsOneLine (sym e) (tested (codes "more than 11 steps follow one another on the way from a frame") refl))

pub returns-in_ok-frames-in_default : goal.returns-in_ok-frames-in_default
returns-in_ok-frames-in_default c =
    let frames : c.as_slice-in_default.result.now ≡ schemas_of c.args.document.now.frames =
    c.as_slice-in_default.ensures.value ∙ (c.in_ok-frames-in_default.ensures ∙ ap schemas_of c.as_slice.ensures) in
    record {
      place = if_ok_then c.words_at_step.result c.words_at_step.ensures.place
          (λ words h. at_step (schemas_of c.args.document.now.frames) c.args.plan.now c.args.fault.now (string_bytes words) c.in_default.not-TooManyScans c.in_default.not-TooDeep
          (subst (λ s. IsStepText s c.args.plan.now (string_bytes words)) frames h));
      line = c.words_at_step.ensures.line;
    }
