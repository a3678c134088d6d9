use Rattle.std.proofs.Common.{◌∙◌, ◌++◌, ap, arith, codes}
use Rattle.std.specs.Prelude.{string_bytes}
use Rattle.df_explain.specs.PlanPlaces.{last_step_text}
use Rattle.df_explain.proofs.PlaceFacts.{through}
use Rattle.df_explain.proofs.plan_place.+within_sides.Goals as goal

pub returns-in-Some-clause-place : goal.returns-in-Some-clause-place
returns-in-Some-clause-place t c =
    through c.args.frames.now _ _ c.within_sides.result (λ x. x.part.now) (λ x. string_bytes x.place) _ _ _ _ _
    (omega arith) (rw c.in-Some.is at c.in_ok-side.ensures.side) c.in_ok-part-in-Some.ensures.step c.in_ok-part-in-Some.ensures.first
    (c.in_ok-place-in-Some.ensures ∙ ap (λ t. t ++ (codes ", right side, " ++ last_step_text c.in_ok-part-in-Some.part.now)) c.as_str.ensures.value)
    c.within_sides.ensures.place
