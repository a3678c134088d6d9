use Rattle.std.proofs.Common.{◌∙◌, ◌++◌, ap, sym}
use Rattle.df_explain.specs.Places.{location_of, place_in_steps}
use Rattle.df_explain.proofs.PlaceFacts.{if_ok_then}
use Rattle.df_explain.proofs.TreeFacts.{none_said}
use Rattle.df_explain.proofs.next_view.shape_words.Goals as goal

pub returns-clause-place : goal.returns-clause-place
returns-clause-place c =
    let none = rw c.in_ok-what-in-Err.was at c.in-Err.ensures.none in
    let said = none_said c.as_slice.result.now c.args.steps.now (c.as_slice.ensures.value ∙ c.in_ok-bytes.ensures) none in
    if_ok_then c.behind_place-in-Err.result c.behind_place-in-Err.ensures.place
    (λ words h. (h.0, h.1 ∙ ap (λ s. place_in_steps s (location_of c.args.fault.now) ++ h.0) (c.without_steps.ensures ∙ sym said)))
