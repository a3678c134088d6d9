use Rattle.std.proofs.Common.{◌∙◌, map, subst, sym}
use Rattle.std.specs.Prelude.{string_bytes}
use Rattle.toml.specs.View.{view}
use Rattle.df_explain.specs.Places.{IsOneLine}
use Rattle.df_explain.proofs.LineFacts.{both, steps_line}
use Rattle.df_explain.proofs.PlaceFacts.{if_ok_then}
use Rattle.df_explain.proofs.next_view.behind_place.Goals as goal

pub returns-clause-line : goal.returns-clause-line
returns-clause-line c =
    if_ok_then c.appended.result c.appended.ensures
    (λ words e. subst IsOneLine (sym e)
    (both c.as_str.result.now c.first_line.result.now
    (subst IsOneLine (sym (c.as_str.ensures.value ∙ c.in_ok-place.ensures)) (steps_line (map view c.args.view.now.steps.now) c.location_of.result))
    c.first_line.ensures))
