use Rattle.std.proofs.Common.{◌∙◌, ◌++◌, ap, codes}
use Rattle.df_explain.proofs.PlaceFacts.{if_ok_then}
use Rattle.df_explain.proofs.plan_place.place_in_side.Goals as goal

pub returns : goal.returns
returns c =
    if_ok_then c.joined.result c.joined.ensures
    (λ text e. e ∙ ap (λ t. c.args.place.now ++ (codes ", right side, " ++ t)) (c.as_str.ensures.value ∙ c.in_ok-inner.ensures))
